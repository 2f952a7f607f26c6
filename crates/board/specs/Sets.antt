-- Sets of stations. A set is a mask: station j is bit j − 1, so its place is one less than its number.
-- Places run below 16. Assumes nothing.
use Rattle.std.specs.Prelude.{ℕ, zero, suc, ◌+◌, ◌/◌, ◌%◌, ◌^◌, Bool, true, false, cond, not, ◌&&◌, ◌||◌, ◌==◌, nat_lt}

-- whether the station at a place is in the set
unfoldable pub has : ℕ → ℕ → Bool
has set zero = (set % 2) == 1
has set (suc place) = has (set / 2) place

-- whether every place below a bound passes a test, and whether some place does
unfoldable pub all : (ℕ → Bool) → ℕ → Bool
all test zero = true
all test (suc place) = test place && all test place

unfoldable pub some : (ℕ → Bool) → ℕ → Bool
some test zero = false
some test (suc place) = test place || some test place

-- how many places below a bound pass a test
unfoldable pub count : (ℕ → Bool) → ℕ → ℕ
count test zero = 0
count test (suc place) = cond (test place) 1 0 + count test place

-- the set of the places below a bound that pass a test
unfoldable pub mask : (ℕ → Bool) → ℕ → ℕ
mask test zero = 0
mask test (suc place) = cond (test place) (2 ^ place) 0 + mask test place

-- if the first holds, then the second
abbrev pub implies : Bool → Bool → Bool
implies premise conclusion = not premise || conclusion

-- the set of the stations that pass a test, and their number
abbrev pub set_of : (ℕ → Bool) → ℕ
set_of test = mask test 16

abbrev pub number_of : (ℕ → Bool) → ℕ
number_of test = count test 16

abbrev pub every : (ℕ → Bool) → Bool
every test = all test 16

abbrev pub any : (ℕ → Bool) → Bool
any test = some test 16

-- every station of the first set is in the second
abbrev pub within : ℕ → ℕ → Bool
within set other = every (λ place. implies (has set place) (has other place))

-- only stations 1 to n are in the set
abbrev pub up_to : ℕ → ℕ → Bool
up_to n set = nat_lt set (2 ^ n)
