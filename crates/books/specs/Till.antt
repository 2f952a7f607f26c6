-- The till book: what an order does to a balance. Assumes nothing.
use Rattle.std.specs.Prelude.{ℕ, ◌+◌, ◌-◌, Bool, cond, ◌&&◌, List, Ok, Err, Result, ◌==◌, nat_le, nat_lt}
use Rattle.wire.specs.Words.{byte, four_bytes}
use Rattle.books.specs.declared.till.TillCode.{TillCode}
use Rattle.books.specs.declared.till.TillCode.TheVariants.{PayIn, PayOut, Read}
use Rattle.books.specs.declared.till.TillReply.{TillReply}
use Rattle.books.specs.declared.till.TillWord.{TillWord}
use Rattle.books.specs.declared.till.TillWord.TheVariants.{Done, Unreadable, OverLimit, NotEnough}

-- what an order's code asks for, if it asks for anything
abbrev pub till_code : ℕ → Result TillCode TillWord
till_code code =
    cond (code == 1) (Ok PayIn) (cond (code == 2) (Ok PayOut) (cond (code == 3) (Ok Read) (Err Unreadable)))

-- an order: its code in byte 0, three zeros, its amount in bytes 4 to 7
abbrev pub code : List ℕ → ℕ
code order = byte order 0

abbrev pub amount : List ℕ → ℕ
amount order = four_bytes order 4

-- the highest order code
abbrev pub till_top : ℕ
till_top = 3

-- codes run from 1 to 3; code 3, which reads, has amount 0, the others an amount from 1
abbrev pub till_readable : List ℕ → Bool
till_readable order =
    nat_le 1 (code order) && (nat_le (code order) till_top
    && (byte order 1 == 0 && (byte order 2 == 0 && (byte order 3 == 0
    && cond (code order == 3) (amount order == 0) (nat_le 1 (amount order))))))

-- a word with the balance afterwards, which is what the till then holds
abbrev pub leaves : TillWord → ℕ → TillReply × ℕ
leaves word balance = (record { word = word; balance = balance }, balance)

-- the outcome of an order: the balance that it leaves when it is done, or the word of why it is not
abbrev pub leaving : ℕ → Result ℕ TillWord → TillReply × ℕ
leaving balance (Ok left) = leaves Done left
leaving balance (Err word) = leaves word balance

-- code 1 pays in, unless the balance would pass 1,000,000,000
abbrev pub pay_in : ℕ → ℕ → TillReply × ℕ
pay_in balance paid =
    cond (nat_lt 1000000000 (balance + paid)) (leaves OverLimit balance) (leaves Done (balance + paid))

-- code 2 pays out, unless it is more than the balance
abbrev pub pay_out : ℕ → ℕ → TillReply × ℕ
pay_out balance paid = cond (nat_lt balance paid) (leaves NotEnough balance) (leaves Done (balance - paid))

abbrev pub till_step : ℕ → List ℕ → TillReply × ℕ
till_step balance order =
    cond (till_readable order)
    (cond (code order == 1) (pay_in balance (amount order))
    (cond (code order == 2) (pay_out balance (amount order))
    (leaves Done balance)))
    (leaves Unreadable balance)
