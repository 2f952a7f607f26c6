-- Nobody present is a board. Assumes nothing.
use Rattle.std.proofs.Common.{◌≡◌, ℕ, zero, suc, ◌^◌, Bool, true, not, ◌&&◌, eqb, List, length, get_or, replicate, refl, ap, ◌∙◌, pow_pos}
use Rattle.std.proofs.lemmas.Bool.{and_from, lt-ltb}
use Rattle.board.specs.Ballots.{fair, votes}
use Rattle.board.specs.Sets.{any, every, has, implies, up_to, within}
use Rattle.board.proofs.Digits.{has-zero}
use Rattle.board.proofs.Places.{all_from}
use Rattle.worked_boards.specs.Cases.{NobodyIsABoard}

-- sixteen empty sets
abbrev empty : List ℕ
empty = replicate 16 0

-- what stands at a place of a list of zeros
zero-at : (n place : ℕ) → ◌≡◌ {A = ℕ} (get_or (replicate n 0) place 0) 0
zero-at zero place = refl
zero-at (suc n) zero = refl
zero-at (suc n) (suc place) = zero-at n place

no_vote : (place : ℕ) (b : Bool) → implies (has 0 place) b ≡ true
no_vote place b = ap (λ h. implies h b) (has-zero place)

fair-nobody : (n place : ℕ) → fair n 0 empty place ≡ true
fair-nobody n place =
    ap (λ s. up_to n s && (within s 0 && implies (not (eqb s 0)) (has s place))) (zero-at 16 place)
    ∙ and_from (up_to n 0) (within 0 0 && implies (not (eqb 0 0)) (has 0 place)) (lt-ltb 0 (2 ^ n) (pow_pos n))
    (and_from (within 0 0) (implies (not (eqb 0 0)) (has 0 place))
    (all_from (λ k. implies (has 0 k) (has 0 k)) 16 (λ k _. no_vote k (has 0 k))) refl)

pub nobody-is_a_board : NobodyIsABoard
nobody-is_a_board n group =
    and_from (eqb (length empty) 16)
    (up_to n 0 && (every (fair n 0 empty) && every (votes 0 empty))) refl
    (and_from (up_to n 0) (every (fair n 0 empty) && every (votes 0 empty)) (lt-ltb 0 (2 ^ n) (pow_pos n))
    (and_from (every (fair n 0 empty)) (every (votes 0 empty))
    (all_from (fair n 0 empty) 16 (λ place _. fair-nobody n place))
    (all_from (votes 0 empty) 16
    (λ place _. no_vote place (any (λ candidate. has (get_or empty candidate 0) place))))))
