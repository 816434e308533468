-- Trap requests, environment calls and breakpoints (document 01, "Traps and returns").
use Rattle.std.specs.Prelude.{false, Result, Ok}
use Rattle.exceptions.specs.declared.Exception.{Exception}
use Rattle.exceptions.specs.declared.Refusal.{Refusal}
use Rattle.privilege.specs.Mode.{gives}
use Rattle.traps.specs.Request.{refusal_of}
use Rattle.delivery.specs.Delivery.{call_cause, breakpoint}
use Rattle.hart.specs.declared.state.Hart.{Hart}
use Rattle.hart.specs.declared.event.Step.{Step}
use Rattle.hart.specs.Hart.{context}
use Rattle.hart.specs.Event.{no_value, settled, trapped, plain}

-- a trap, unless refused
abbrev pub trapping : Hart → (own : Result Unit Refusal) → Exception → Step
trapping h own t = settled h own (gives false false) no_value (trapped h t)

-- a trap request is refused as 4 if it can't arise, else delivered
unfoldable pub trap : Hart → Exception → Step
trap h t = trapping h (refusal_of (context h) t) t

-- environment calls give 8 (U, VU), 9, 10, 11 with value 0; the flag is clear; second value and word are 0
unfoldable pub ecall : Hart → Step
ecall h = trapping h (Ok tt) (plain (call_cause (context h)) 0)

-- breakpoint: value pc, flag = V
unfoldable pub ebreak : Hart → Step
ebreak h = trapping h (Ok tt) (breakpoint h.v h.pc)
