-- What a message that is taken in has passed. Assumes nothing.
use Rattle.std.proofs.Common.{◌≡◌, ℕ, ◌<◌, Bool, true, false, cond, eqb, List, length, None, Ok, Err, Result, sym, refl, ◌∙◌, ap₂, arith}
use Rattle.std.proofs.lemmas.Grind.{common_steps}
use Rattle.std.proofs.lemmas.Bool.{eqb-true}
use Rattle.wire.specs.Format.{Contents, reading}
use Rattle.wire.specs.Messages.{well_formed}
use Rattle.wire.specs.declared.fault.Fault.{Fault}
use Rattle.wire.specs.declared.fault.Fault.TheVariants.{Layout, Setting}
use Rattle.wire.specs.declared.message.Message.{Message}
use Rattle.model.specs.Accepted.{crossed, early}
use Rattle.model.specs.Calls.{carried_message, for_group, take_decided}
use Rattle.model.specs.States.{State, is_shut, known}
use Rattle.model.proofs.MessageFacts.{well-reads}

-- a refusal is no message
pub never-taken : {A : Type 0} (fault : Fault) (value : A) → ◌≡◌ {A = Result A Fault} (Err fault) (Ok value) → ⊥
never-taken fault value e = grind (arith, common_steps)

pub record Passed (state : State) (message : Message) : Type 0 where
  pub fresh : known state message.station message.number ≡ None
  pub timely : early (known state) message ≡ false
  pub straight : crossed (known state) message ≡ false
  pub room : length state.accepted < state.settings.table

pub passed : (state : State) (message result : Message) → take_decided state message ≡ Ok result → Passed state message
passed state message result e = grind (arith, common_steps)

-- what a carried message has passed: the station is open, and the message is well formed for its group
pub record Carried (state : State) (message : Message) : Type 0 where
  pub live : is_shut state ≡ false
  pub group : well_formed state.settings.n message ≡ true

pub carried-is : (state : State) (block : List ℕ) (message : Message) → carried_message state block ≡ Ok message → Carried state message
carried-is state block message e = tested (is_shut state) (reading block) refl refl e
  where
    grouped :
        (contents : Contents) (same : Bool) → is_shut state ≡ false → reading block ≡ Ok contents
        → eqb contents.n state.settings.n ≡ same → cond same (Ok contents.message) (Err Layout) ≡ Ok message
        → Carried state message
    grouped contents true live read same e =
        let itself : contents.message ≡ message = cc in
        let n_is = eqb-true contents.n state.settings.n same in
        record { live = live; group = ap₂ well_formed (sym n_is) (sym itself) ∙ well-reads block contents read }
    grouped contents false live read same e = absurd (never-taken Layout message e)

    tested :
        (shut : Bool) (read : Result Contents Fault) → is_shut state ≡ shut → reading block ≡ read
        → cond shut (Err Setting) (for_group state read) ≡ Ok message → Carried state message
    tested true read live is e = absurd (never-taken Setting message e)
    tested false (Err fault) live is e = absurd (never-taken fault message e)
    tested false (Ok contents) live is e = grouped contents (eqb contents.n state.settings.n) live is refl e
