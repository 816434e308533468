-- The registers that a hart keeps, each at its place, in rising order of number: all but the views of others, as sstatus, and the
-- constants hgeie and hgeip.
use Rattle.std.specs.Prelude.{ℕ}

-- how many they are
abbrev pub kept : ℕ
kept = 31

abbrev pub stvec : ℕ
stvec = 0

abbrev pub sscratch : ℕ
sscratch = 1

abbrev pub sepc : ℕ
sepc = 2

abbrev pub scause : ℕ
scause = 3

abbrev pub stval : ℕ
stval = 4

abbrev pub satp : ℕ
satp = 5

abbrev pub vsstatus : ℕ
vsstatus = 6

abbrev pub vstvec : ℕ
vstvec = 7

abbrev pub vsscratch : ℕ
vsscratch = 8

abbrev pub vsepc : ℕ
vsepc = 9

abbrev pub vscause : ℕ
vscause = 10

abbrev pub vstval : ℕ
vstval = 11

abbrev pub vsatp : ℕ
vsatp = 12

abbrev pub mstatus : ℕ
mstatus = 13

abbrev pub medeleg : ℕ
medeleg = 14

abbrev pub mideleg : ℕ
mideleg = 15

abbrev pub mie : ℕ
mie = 16

abbrev pub mtvec : ℕ
mtvec = 17

abbrev pub mscratch : ℕ
mscratch = 18

abbrev pub mepc : ℕ
mepc = 19

abbrev pub mcause : ℕ
mcause = 20

abbrev pub mtval : ℕ
mtval = 21

abbrev pub mip : ℕ
mip = 22

abbrev pub mtinst : ℕ
mtinst = 23

abbrev pub mtval2 : ℕ
mtval2 = 24

abbrev pub hstatus : ℕ
hstatus = 25

abbrev pub hedeleg : ℕ
hedeleg = 26

abbrev pub hideleg : ℕ
hideleg = 27

abbrev pub htval : ℕ
htval = 28

abbrev pub htinst : ℕ
htinst = 29

abbrev pub hgatp : ℕ
hgatp = 30
