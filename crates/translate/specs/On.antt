-- Which stages are on, and how deep their tables are.
use Rattle.std.specs.Prelude.{Bool, ◌&&◌, not, ℕ, eqb}
use Rattle.bits.specs.Field.{pick, get}
use Rattle.registers.specs.Fields.{MODE}
use Rattle.registers.specs.Places.{satp, vsatp, hgatp}
use Rattle.hart.specs.declared.state.Hart.{Hart}
use Rattle.hart.specs.Hart.{reg, context}
use Rattle.rules.specs.declared.Kind.{Kind}
use Rattle.effective.specs.Effective.{effective, is_bare, depth}

-- "A stage is on when the access, by its effective mode, walks it and its MODE isn't Bare."
abbrev pub first_on : Hart → Kind → Bool
first_on h kind =
    let m = effective (context h) kind in
    pick m.v (not (is_bare (reg h vsatp))) (not (eqb m.privilege 3) && not (is_bare (reg h satp)))

abbrev pub second_on : Hart → Kind → Bool
second_on h kind = (effective (context h) kind).v && not (is_bare (reg h hgatp))

-- "Bare and mixed depths count n or m as 0 or their own depth" (2026-05): of the register that the access walks, 0 where it walks none
abbrev pub first_depth : Hart → Kind → ℕ
first_depth h kind =
    let m = effective (context h) kind in
    pick m.v (depth (get MODE (reg h vsatp))) (pick (eqb m.privilege 3) 0 (depth (get MODE (reg h satp))))

abbrev pub second_depth : Hart → Kind → ℕ
second_depth h kind = pick (effective (context h) kind).v (depth (get MODE (reg h hgatp))) 0
