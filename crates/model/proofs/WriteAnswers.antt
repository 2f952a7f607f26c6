-- When each answer of write and of post comes. Assumes nothing.
use Rattle.std.proofs.Common.{◌≡◌, ℕ, zero, suc, ◌<◌, Bool, true, false, cond, eqb, List, [], ◌∷◌, length, Some, None, Ok, Err, Decides, Option, Result, sym, refl, ap, ◌∙◌, ⊎_elim, arith}
use Rattle.std.specs.List.{slice_get}
use Rattle.std.proofs.lemmas.Option.{slice_get_past}
use Rattle.std.proofs.lemmas.Grind.{common_steps}
use Rattle.std.proofs.lemmas.Bool.{and_from, and_parts, both_ways, cases_lt, eq-eqb, eqb-true, false≢true, le-leb, leb-true}
use Rattle.wire.specs.declared.fault.Fault.{Fault}
use Rattle.wire.specs.declared.fault.Fault.TheVariants.{Full, Layout, Length, Setting}
use Rattle.wire.specs.declared.message.Message.{Message}
use Rattle.wire.proofs.Ranges.{within_at}
use Rattle.model.specs.declared.entry.Entry.{Entry}
use Rattle.model.specs.Calls.{may_write, next_message, outcome, post_of, to_post, write_of}
use Rattle.model.specs.Meanings.{HasNoRoom, IsWritable, PostAnswers, WriteAnswers}
use Rattle.model.specs.States.{State, accepting, entry_at, is_full, is_shut, posting}
use Rattle.model.proofs.AnswerLaws.{comes, fails}
use Rattle.model.proofs.Written.{within-from}

-- Write.

writable_decides : (class : ℕ) (note : List ℕ) → Decides (may_write class note) (IsWritable class note)
writable_decides class note = grind (arith, common_steps, and_parts, leb-true, within_at, and_from, le-leb, within-from)

module _ (state : State) (class : ℕ) (note block : List ℕ) (message : Message) where
  written_answers :
      (shut long may full : Bool) → is_shut state ≡ shut → Decides long (length block ≡ 512)
      → Decides may (IsWritable class note) → Decides full (HasNoRoom state)
      → WriteAnswers state class note block
      (outcome state
      (cond shut (Err Setting) (cond long (cond may (cond full (Err Full) (Ok message)) (Err Layout)) (Err Length)))
      (λ _. tt) (accepting state)).answer
  written_answers true long may full shut l m f = grind (arith, common_steps, comes, fails, both_ways)
  written_answers false false may full live l m f = grind (arith, common_steps, fails, both_ways, comes, false≢true)
  written_answers false true false full live l m f = grind (arith, common_steps, fails, both_ways, comes, false≢true)
  written_answers false true true true live l m f = grind (arith, common_steps, fails, both_ways, comes)
  written_answers false true true false live l m f = grind (arith, common_steps, fails, both_ways, false≢true, comes)

pub write-answers :
    (state : State) (class : ℕ) (order note block : List ℕ)
    → WriteAnswers state class note block (write_of state class order note block).answer
write-answers state class order note block =
    written_answers state class note block (next_message state class order) (is_shut state) (eqb (length block) 512) (may_write class note)
    (is_full state) refl (eqb-true (length block) 512, eq-eqb (length block) 512) (writable_decides class note)
    (leb-true state.settings.table (length state.accepted), le-leb state.settings.table (length state.accepted))

-- Post.

module _ {Held Reply : Type 0} (step : Held → List ℕ → Reply × Held) (state : State) (held : Held) where
  there : (entries : List Entry) (i : ℕ) → i < length entries → slice_get entries i ≡ None → ⊥
  there [] i inside nothing = omega arith
  there (entry ∷ entries) zero inside nothing = let z : ◌≡◌ {A = ℕ} 0 1 = cc in omega arith
  there (entry ∷ entries) (suc i) inside nothing = there entries i (omega arith) nothing

  posted_answers :
      (shut : Bool) → is_shut state ≡ shut → (found : Option Entry) → entry_at state.roll (suc state.posted) ≡ found
      → PostAnswers step state held
      (outcome state (cond shut (Err Setting) (to_post found)) (λ entry. (step held entry.message.order).0) (λ _. posting state)).answer
  posted_answers true shut found is =
      record {
        setting = comes refl shut;
        nothing_to_post = fails (omega arith) (λ p. both_ways (is_shut state) p.0 shut);
        done = λ reply. fails (omega arith) (λ p. both_ways (is_shut state) p.1 shut);
      }
  posted_answers false live None none =
      record {
        setting = fails (omega arith) (λ shut. both_ways (is_shut state) live shut);
        nothing_to_post =
            comes refl (
              live,
              ⊎_elim (λ below. absurd (there state.roll state.posted below none)) (λ past. past)
                  (cases_lt state.posted (length state.roll)),
            );
        done = λ reply. fails (omega arith) (λ p. let found = p.2 in let z : ◌≡◌ {A = ℕ} 0 1 = cc in omega arith);
      }
  posted_answers false live (Some entry) found =
      record {
        setting = fails (omega arith) (λ shut. both_ways (is_shut state) live shut);
        nothing_to_post =
            fails (omega arith)
            (λ p. let none = slice_get_past state.roll state.posted p.1 in let z : ◌≡◌ {A = ℕ} 0 1 = cc in omega arith);
        done = λ reply. (
          (λ same. (entry, live, found, (cc))),
          (λ p. replied reply p.0 p.2 p.3),
        );
      }
    where
      replied :
          (reply : Reply) (other : Entry) → entry_at state.roll (suc state.posted) ≡ Some other
          → reply ≡ (step held other.message.order).0
          → ◌≡◌ {A = Result Reply Fault} (Ok (step held entry.message.order).0) (Ok reply)
      replied reply other also is =
          let one : other ≡ entry = cc in
          ap Ok (sym (is ∙ ap (λ e. (step held e.message.order).0) one))

  pub post_answers : PostAnswers step state held (post_of step state held).answer
  post_answers = posted_answers (is_shut state) refl (entry_at state.roll (suc state.posted)) refl
