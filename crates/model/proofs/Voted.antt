-- The voters of a candidate, by who backs its head. Assumes nothing.
use Rattle.std.proofs.Common.{◌≡◌, ℕ, true, false, ◌&&◌, List, get_or, Some, None, Option, sym, ap, ◌∙◌, ap₂, arith}
use Rattle.board.specs.Sets.{set_of}
use Rattle.board.proofs.Digits.{has-zero, mask_is}
use Rattle.board.proofs.Places.{mask-same}
use Rattle.wire.specs.declared.message.Message.{Message}
use Rattle.model.specs.Arrays.{counts_by_station, voters_in, votes_in}
use Rattle.model.specs.Heads.{backs, is_ready, ready_head}

module _ (heads : List (Option Message)) (released : List ℕ) (place : ℕ) where
  -- no candidate has no voters
  pub voters-none : ready_head (counts_by_station released) (get_or heads place None) ≡ false → 0 ≡ voters_in heads released place
  voters-none none =
      mask_is (λ voter. votes_in heads released voter place) 16 0 (omega arith)
      (λ voter _. has-zero voter ∙ sym (ap (λ ready. ready && backs (get_or heads voter None) (get_or heads place None)) none))

  -- a candidate has those that back its head
  pub voters-some :
      (head : Message) → get_or heads place None ≡ Some head → is_ready (counts_by_station released) head ≡ true
      → set_of (λ voter. backs (get_or heads voter None) (Some head)) ≡ voters_in heads released place
  voters-some head is ready =
      mask-same (λ voter. backs (get_or heads voter None) (Some head)) (λ voter. votes_in heads released voter place) 16
      (λ voter _.
      sym (ap (λ there. ready_head (counts_by_station released) there && backs (get_or heads voter None) there) is
      ∙ ap (λ b. b && backs (get_or heads voter None) (Some head)) ready))
