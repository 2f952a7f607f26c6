-- When each answer of release comes. Assumes nothing.
use Rattle.std.proofs.Common.{◌≡◌, ℕ, Bool, true, false, cond, ◌&&◌, eqb, ◌⊎◌, List, length, Some, None, Ok, Err, Option, Result, sym, refl, ap, ◌∙◌, subst, inl, inr, ⊎_elim, arith}
use Rattle.std.proofs.lemmas.Grind.{common_steps}
use Rattle.std.proofs.lemmas.Bool.{both_ways, eqb-false, eqb-true}
use Rattle.board.specs.Rules.{RuleMeaning}
use Rattle.board.specs.declared.board.Board.{Board}
use Rattle.ties.specs.Ties.{TieMeaning}
use Rattle.wire.specs.declared.fault.Fault.{Fault}
use Rattle.wire.specs.declared.fault.Fault.TheVariants.{Setting}
use Rattle.model.specs.declared.entry.Entry.{Entry}
use Rattle.model.specs.Calls.{outcome, release_of, settled_wave, shown_board, wave_from}
use Rattle.model.specs.Heads.{board_at}
use Rattle.model.specs.Meanings.{IsAsked, ReleaseAnswers}
use Rattle.model.specs.States.{State, is_shut, known, released, releasing}
use Rattle.model.proofs.AnswerLaws.{comes, fails}

module _ (state : State) (rule : RuleMeaning) (order : TieMeaning) where
  abbrev told : Result (List Entry) Fault → Result ℕ Fault
  told decided = (outcome state decided length (releasing state)).answer

  abbrev board_result : Result Board Fault
  board_result = board_at state.settings.n (known state) (released state)

  -- refused as a setting
  setting_answers :
      ((is_shut state ≡ true) ⊎ ((rule.n ≡ state.settings.n → ⊥) ⊎ (order.n ≡ state.settings.n → ⊥)))
      → ReleaseAnswers state rule order (Err Setting)
  setting_answers why = grind (arith, common_steps)

  -- asked: the answer is the rule's
  module _ (board : Board) (asked : IsAsked state rule order board) where
    one_board : (other : Board) → IsAsked state rule order other → other ≡ board
    one_board other also = let a = asked.board_is in let b = also.board_is in cc

    never_setting : (is_shut state ≡ true) ⊎ ((rule.n ≡ state.settings.n → ⊥) ⊎ (order.n ≡ state.settings.n → ⊥)) → ⊥
    never_setting why =
        ⊎_elim (λ shut. both_ways (is_shut state) asked.live shut)
        (λ apart. ⊎_elim (λ r. r asked.rule_n) (λ o. o asked.order_n) apart) why

    asked_answers :
        (found : Option ℕ) → rule.answer board ≡ found → ReleaseAnswers state rule order (told (settled_wave state order found))
    asked_answers None open-board =
        record {
          setting = fails (omega arith) never_setting;
          nothing_ready = comes refl (board, asked, open-board);
          done = λ count. fails (omega arith) (λ p. no_source p.0 p.1 p.2 p.3);
        }
      where
        no_source : (other : Board) (sources : ℕ) → IsAsked state rule order other → rule.answer other ≡ Some sources → ⊥
        no_source other sources also settled =
            let same = ap rule.answer (one_board other also) in
            cc
    asked_answers (Some sources) settled =
        record {
          setting = fails (omega arith) never_setting;
          nothing_ready = fails (omega arith) (λ p. no_none p.0 p.1 p.2);
          done = λ count. (
            (λ same. (board, sources, asked, settled, (cc))),
            (λ p. counted count p.0 p.1 p.2 p.3 p.4),
          );
        }
      where
        no_none : (other : Board) → IsAsked state rule order other → rule.answer other ≡ None → ⊥
        no_none other also none =
            let same = ap rule.answer (one_board other also) in
            cc

        counted :
            (count : ℕ) (other : Board) (others : ℕ) → IsAsked state rule order other → rule.answer other ≡ Some others
            → count ≡ length (wave_from state order others)
            → ◌≡◌ {A = Result ℕ Fault} (Ok (length (wave_from state order sources))) (Ok count)
        counted count other others also found is =
            let same = ap rule.answer (one_board other also) in
            let one : others ≡ sources = cc in
            ap Ok (sym (is ∙ ap (λ s. length (wave_from state order s)) one))

  released_answers :
      ((is_shut state ≡ false) → (board : Board) × (board_result ≡ Ok board)) → (shut r o : Bool) → is_shut state ≡ shut
      → eqb rule.n state.settings.n ≡ r → eqb order.n state.settings.n ≡ o
      → ReleaseAnswers state rule order
      (told (cond shut (Err Setting) (cond (r && o) (shown_board state rule order board_result) (Err Setting))))
  released_answers there true r o shut rn on = setting_answers (inl shut)
  released_answers there false false o live rn on = setting_answers (inr (inl (eqb-false rule.n state.settings.n rn)))
  released_answers there false true false live rn on = setting_answers (inr (inr (eqb-false order.n state.settings.n on)))
  released_answers there false true true live rn on =
      let found = there live in
      subst (λ b. ReleaseAnswers state rule order (told (shown_board state rule order b))) (sym found.1)
      (asked_answers found.0
      (record {
        live = live;
        rule_n = eqb-true rule.n state.settings.n rn;
        order_n = eqb-true order.n state.settings.n on;
        board_is = found.1;
      })
      (rule.answer found.0) refl)

  pub release_answers :
      ((is_shut state ≡ false) → (board : Board) × (board_at state.settings.n (known state) (released state) ≡ Ok board))
      → ReleaseAnswers state rule order (release_of state rule order).answer
  release_answers there =
      released_answers there (is_shut state) (eqb rule.n state.settings.n) (eqb order.n state.settings.n) refl refl refl
