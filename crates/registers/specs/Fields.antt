-- The named fields (document 01, "Stored bits").
use Rattle.bits.specs.declared.Field.{Field}
use Rattle.bits.specs.Field.{span, bit}

-- mstatus; SIE, SPIE, SPP, SUM, MXR and UXL are also those of sstatus and vsstatus
abbrev pub SIE : Field
SIE = bit 1

abbrev pub MIE : Field
MIE = bit 3

abbrev pub SPIE : Field
SPIE = bit 5

abbrev pub MPIE : Field
MPIE = bit 7

abbrev pub SPP : Field
SPP = bit 8

abbrev pub MPP : Field
MPP = span 12 11

abbrev pub MPRV : Field
MPRV = bit 17

abbrev pub SUM : Field
SUM = bit 18

abbrev pub MXR : Field
MXR = bit 19

abbrev pub TVM : Field
TVM = bit 20

abbrev pub TW : Field
TW = bit 21

abbrev pub TSR : Field
TSR = bit 22

abbrev pub GVA : Field
GVA = bit 38

abbrev pub MPV : Field
MPV = bit 39

abbrev pub UXL : Field
UXL = span 33 32

abbrev pub SXL : Field
SXL = span 35 34

-- hstatus; HGVA is its GVA
abbrev pub HGVA : Field
HGVA = bit 6

abbrev pub SPV : Field
SPV = bit 7

abbrev pub SPVP : Field
SPVP = bit 8

abbrev pub HU : Field
HU = bit 9

abbrev pub VTVM : Field
VTVM = bit 20

abbrev pub VTW : Field
VTW = bit 21

abbrev pub VTSR : Field
VTSR = bit 22

abbrev pub VSXL : Field
VSXL = span 33 32

-- satp, vsatp (MODE, PPN) and hgatp (all three)
abbrev pub MODE : Field
MODE = span 63 60

abbrev pub VMID : Field
VMID = span 57 44

abbrev pub PPN : Field
PPN = span 43 0

-- mip and mie, and where it has them mideleg, hideleg and the views: "numbers and other bits are as the manual has them" (2026-01).
-- Of S, VS and M the software, timer and external interrupts.
abbrev pub SSI : Field
SSI = bit 1

abbrev pub VSSI : Field
VSSI = bit 2

abbrev pub MSI : Field
MSI = bit 3

abbrev pub STI : Field
STI = bit 5

abbrev pub VSTI : Field
VSTI = bit 6

abbrev pub MTI : Field
MTI = bit 7

abbrev pub SEI : Field
SEI = bit 9

abbrev pub VSEI : Field
VSEI = bit 10

abbrev pub MEI : Field
MEI = bit 11
