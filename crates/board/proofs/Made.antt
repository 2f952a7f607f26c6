-- Boards and their sets: the steps by which the code makes one, and that a board is the board of its sets.
-- Assumes nothing.
use Rattle.std.proofs.Common.{◌≡◌, ℕ, zero, suc, length, [], ◌∷◌, ap₂, ◌+◌, ◌*◌, ◌/◌, ◌%◌, ◌^◌, ◌<◌, ◌≤◌, Bool, true, false, not, ◌&&◌, ◌||◌, eqb, List, Ok, Result, sym, refl, ap, ◌∙◌, subst, ⊎_elim, add-one, arith, pow_pos, pow_mono}
use mathlib.Core.Bool.{Bool-set}
use native.Mathlib.Nat.{div-eq_of_lt}
use Rattle.std.proofs.lemmas.Nat.{shr_split, mod_below}
use Rattle.std.proofs.Math.Bool.{or-false, or_assoc}
use Rattle.std.specs.Cmp.Lexicographic.{pointwise}
use Rattle.std.proofs.lemmas.Bool.{cases_Bool, true≢false, eqb-true, eq-eqb, lt-ltb, and_from, and_parts}
use Rattle.std.proofs.lemmas.Bool.Decides.{nat_tests, same_from_decides, Decides-eqb, Decides-ltb}
use Rattle.std.proofs.lemmas.Slice.Eq.{slice_eq-Decides}
use Rattle.wire.specs.declared.fault.Fault.{Fault}
use Rattle.std.specs.List.{fold}
use Rattle.board.specs.Sets.{has, all, some, count, mask, implies, within, every, any, set_of, up_to}
use Rattle.board.specs.Ballots.{is_group, is_board, votes_for, votes, voting_set}
use Rattle.board.specs.Boards.{ComparingDecides, board_decided, board_of, is_same_board}
use Rattle.board.specs.declared.board.Board.{Board}
use Rattle.board.proofs.Places.{all-at, all_more, all_same, some-none, some_more, mask-same, count_same}
use Rattle.board.proofs.Digits.{has-zero, has-mask, mask_below, mask_is}

-- only stations 1 to n

pub up_to-all : (n set : ℕ) → set < 65536 → 16 ≤ n → true ≡ up_to n set
up_to-all n set h past = sym (lt-ltb set (2 ^ n) (further (2 ^ n) (pow_mono {i = 16} {j = n} past)))
  where
    further : (bound : ℕ) → 65536 ≤ bound → set < bound
    further bound b = omega arith

pub up_to-is : (n set : ℕ) → eqb (set / 2 ^ n) 0 ≡ up_to n set
up_to-is n set =
    same_from_decides (eqb (set / 2 ^ n) 0) (up_to n set) (
      (λ e. below (set / 2 ^ n) (2 ^ n) (set % 2 ^ n) (eqb-true (set / 2 ^ n) 0 e) (mod_below set (2 ^ n) (pow_pos n)) (shr_split set n)),
      (λ h. eq-eqb (set / 2 ^ n) 0 (div-eq_of_lt h)),
    )
    (Decides-ltb set (2 ^ n))
  where
    below : (quotient bound rest : ℕ) → quotient ≡ 0 → rest < bound → quotient * bound + rest ≡ set → set < bound
    below quotient bound rest none h e =
        let empty : quotient * bound ≡ 0 * bound = ap (λ q. q * bound) none in omega arith

-- a search for a place that fails

pub all_fails : (test : ℕ → Bool) (n place : ℕ) → place < n → test place ≡ false → false ≡ all test n
all_fails test n place h e =
    ⊎_elim (λ t. absurd (true≢false (sym (all-at test n place t h) ∙ e))) sym (cases_Bool (all test n))

pub all_goes_on : (test : ℕ → Bool) (place : ℕ) → all test place ≡ true → test place ≡ true → all test (place + 1) ≡ true
all_goes_on test place below here =
    ap (all test) (add-one place) ∙ all_more test place ∙ and_from (test place) (all test place) here below

-- who votes for a candidate at an earlier place

pub voting_none : (voters : List ℕ) → 0 ≡ mask (λ voter. some (λ candidate. has (votes_for voters candidate) voter) 0) 16
voting_none voters =
    mask_is (λ voter. some (λ candidate. has (votes_for voters candidate) voter) 0) 16 0 (omega arith)
    (λ voter _. has-zero voter ∙ sym (some-none (λ candidate. has (votes_for voters candidate) voter)))

pub voting_more :
    (voters : List ℕ) (place before after : ℕ)
    → before ≡ mask (λ voter. some (λ candidate. has (votes_for voters candidate) voter) place) 16
    → after ≡ mask (λ voter. has (votes_for voters place) voter || has before voter) 16
    → after ≡ mask (λ voter. some (λ candidate. has (votes_for voters candidate) voter) (place + 1)) 16
voting_more voters place before after b a =
    a ∙ mask-same (λ voter. has (votes_for voters place) voter || has before voter)
    (λ voter. some (λ candidate. has (votes_for voters candidate) voter) (place + 1)) 16
    (λ voter h.
    ap (λ x. has (votes_for voters place) voter || x)
    (ap (λ s. has s voter) b ∙ has-mask (λ k. some (λ candidate. has (votes_for voters candidate) k) place) 16 voter h)
    ∙ sym (ap (some (λ candidate. has (votes_for voters candidate) voter)) (add-one place)
    ∙ some_more (λ candidate. has (votes_for voters candidate) voter) place))

-- who votes for some candidate, told set by set

-- the stations that are in one of two sets
abbrev pub joins : ℕ → ℕ → ℕ
joins one other = set_of (λ place. has one place || has other place)

-- a place that passes is the first, or is found after it
some_later : (test : ℕ → Bool) (n : ℕ) → some test (suc n) ≡ (test 0 || some (λ k. test (suc k)) n)
unfolding some
some_later test zero = refl
some_later test (suc n) = ap (λ b. test (suc n) || b) (some_later test n) ∙ swapped (test (suc n)) (test 0) (some (λ k. test (suc k)) n)
  where
    swapped : (x y z : Bool) → (x || (y || z)) ≡ (y || (x || z))
    swapped x y z = grind (arith, nat_tests)

has-joins :
    (sets : List ℕ) (set voter : ℕ) → voter < 16
    → has (fold joins set sets) voter ≡ (has set voter || some (λ k. has (votes_for sets k) voter) (length sets))
has-joins [] set voter h =
    sym (ap (λ b. has set voter || b) (some-none (λ k. has (votes_for [] k) voter)) ∙ or-false (has set voter))
has-joins (one ∷ sets) set voter h =
    has-joins sets (joins set one) voter h
    ∙ ap (λ b. b || some (λ k. has (votes_for sets k) voter) (length sets)) (has-mask (λ place. has set place || has one place) 16 voter h)
    ∙ or_assoc (has set voter) (has one voter) (some (λ k. has (votes_for sets k) voter) (length sets))
    ∙ ap (λ b. has set voter || b) (sym (some_later (λ k. has (votes_for (one ∷ sets) k) voter) (length sets)))

joins_below : (sets : List ℕ) (set : ℕ) → set < 65536 → fold joins set sets < 65536
joins_below [] set h = h
joins_below (one ∷ sets) set h = joins_below sets (joins set one) (mask_below (λ place. has set place || has one place) 16)

pub joins-voting : (voters : List ℕ) → length voters ≡ 16 → fold joins 0 voters ≡ voting_set voters
joins-voting voters long =
    mask_is (λ voter. any (λ candidate. has (votes_for voters candidate) voter)) 16 (fold joins 0 voters)
    (joins_below voters 0 (omega arith))
    (λ voter h.
    has-joins voters 0 voter h
    ∙ ap₂ (λ b n. b || some (λ candidate. has (votes_for voters candidate) voter) n) (has-zero voter) long)

-- every present station is among those that vote
pub all_vote :
    (present voting : ℕ) (voters : List ℕ)
    → voting ≡ mask (λ voter. any (λ candidate. has (votes_for voters candidate) voter)) 16
    → within present voting ≡ every (votes present voters)
all_vote present voting voters e =
    all_same (λ place. implies (has present place) (has voting place)) (votes present voters) 16
    (λ place h. ap (implies (has present place))
    (ap (λ s. has s place) e ∙ has-mask (λ voter. any (λ candidate. has (votes_for voters candidate) voter)) 16 place h))

pub board_is :
    (sixteen range each vote answer : Bool) → sixteen ≡ true → range ≡ true → each ≡ true → answer ≡ vote
    → answer ≡ (sixteen && (range && (each && vote)))
board_is sixteen range each vote answer s r f e = grind (arith, nat_tests)

-- the number of stations in a set that is told by a test
pub number-told : (test : ℕ → Bool) (set size : ℕ) → set ≡ mask test 16 → size ≡ count (has set) 16 → size ≡ count test 16
number-told test set size e s =
    s ∙ count_same (has set) test 16 (λ place h. ap (λ m. has m place) e ∙ has-mask test 16 place h)

-- the stations of one set that are not in another, where a test tells the one
pub rest-told :
    (test : ℕ → Bool) (set other rest : ℕ) → set ≡ mask test 16
    → rest ≡ mask (λ place. has set place && not (has other place)) 16
    → rest ≡ mask (λ place. test place && not (has other place)) 16
rest-told test set other rest e r =
    r ∙ mask-same (λ place. has set place && not (has other place)) (λ place. test place && not (has other place)) 16
    (λ place h. ap (λ x. x && not (has other place)) (ap (λ m. has m place) e ∙ has-mask test 16 place h))

-- boards with the same sets are the same

told-alike :
    (n present : ℕ) (voters : List ℕ) (g g' : is_group n ≡ true) (h h' : is_board n present voters ≡ true)
    → ◌≡◌ {A = Board} (record { n = n; present = present; voters = voters; group = g; holds = h })
    (record { n = n; present = present; voters = voters; group = g'; holds = h' })
told-alike n present voters g g' h h' =
    λ i. record {
      n = n;
      present = present;
      voters = voters;
      group = Bool-set (is_group n) true g g' i;
      holds = Bool-set (is_board n present voters) true h h' i;
    }

pub same-board :
    (one other : Board) → one.n ≡ other.n → one.present ≡ other.present → one.voters ≡ other.voters → one ≡ other
same-board one other e f v =
    subst (λ (n : ℕ). (g : is_group n ≡ true) (h : is_board n other.present other.voters ≡ true)
    → ◌≡◌ {A = Board} one (record { n = n; present = other.present; voters = other.voters; group = g; holds = h })) e
    (subst (λ (present : ℕ). (g : is_group one.n ≡ true) (h : is_board one.n present other.voters ≡ true)
    → ◌≡◌ {A = Board} one (record { n = one.n; present = present; voters = other.voters; group = g; holds = h })) f
    (subst (λ (voters : List ℕ). (g : is_group one.n ≡ true) (h : is_board one.n one.present voters ≡ true)
    → ◌≡◌ {A = Board} one (record { n = one.n; present = one.present; voters = voters; group = g; holds = h })) v
    (λ g h. told-alike one.n one.present one.voters one.group g one.holds h)))
    other.group other.holds

-- and comparing them says so

pub comparing_decides : ComparingDecides
comparing_decides board other =
    (same, λ e. subst (λ (b : Board). is_same_board board b ≡ true) e itself)
  where
    same : is_same_board board other ≡ true → board ≡ other
    same e =
        let parts = and_parts (eqb board.n other.n) (eqb board.present other.present && pointwise eqb board.voters other.voters) e in
        let rest = and_parts (eqb board.present other.present) (pointwise eqb board.voters other.voters) parts.1 in
        same-board board other (eqb-true board.n other.n parts.0) (eqb-true board.present other.present rest.0)
        ((slice_eq-Decides Decides-eqb board.voters other.voters (pointwise eqb board.voters other.voters) refl).0 rest.1)

    itself : is_same_board board board ≡ true
    itself =
        and_from (eqb board.n board.n) (eqb board.present board.present && pointwise eqb board.voters board.voters)
        (eq-eqb board.n board.n refl)
        (and_from (eqb board.present board.present) (pointwise eqb board.voters board.voters)
        (eq-eqb board.present board.present refl)
        ((slice_eq-Decides Decides-eqb board.voters board.voters (pointwise eqb board.voters board.voters) refl).1 refl))

-- a board is the board of its sets

board_told :
    (board : Board) (group holds : Bool) (g : is_group board.n ≡ group) (h : is_board board.n board.present board.voters ≡ holds)
    → group ≡ true → holds ≡ true
    → board_decided board.n board.present board.voters group holds g h ≡ Ok board
board_told board true true g h eg eh =
    ap (λ (b : Board). as_ok b) (told-alike board.n board.present board.voters g board.group h board.holds)
  where
    as_ok : Board → Result Board Fault
    as_ok b = Ok b
board_told board true false g h eg eh = absurd (true≢false (sym eh))
board_told board false holds g h eg eh = absurd (true≢false (sym eg))

-- every board is the board of its sets
pub board_of_sets : (board : Board) → board_of board.n board.present board.voters ≡ Ok board
board_of_sets board =
    board_told board (is_group board.n) (is_board board.n board.present board.voters) refl refl board.group board.holds
