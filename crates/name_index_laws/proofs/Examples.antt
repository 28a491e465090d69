-- Four names, a, b, c and d, and what a search among them meets: the place and the places read. And the order of names that begin one another, and of bytes
-- from 0x80 on.
-- Assumes nothing.
use Rattle.std.specs.Prelude.{ℕ, ◌≡◌, refl, List, [], ◌∷◌, Ok, Err}
use Rattle.std.specs.declared.cmp.Ordering.TheVariants.{Less}
use Rattle.symbol.specs.Layout.{scope_in}
use Rattle.name_index.specs.Named.{Rows, rows_of}
use Rattle.name_index.specs.Seek.{met_at, halve, stands, seek_of}
use Rattle.name_index.specs.Index.{index_of, row_put, rows_put, inserted, used}
use Rattle.name_index_laws.proofs.Order.{order}

-- name i + 1 is byte i; the symbols' rows bear them from the last to the first: row 1 bears d
four : Rows
four =
    rows_of (97 ∷ 98 ∷ 99 ∷ 100 ∷ [])
    (0 ∷ 0 ∷ 0 ∷ 0 ∷ 0 ∷ 0 ∷ 0 ∷ 0 ∷ 0 ∷ 1 ∷ 0 ∷ 4 ∷ 0 ∷ 0 ∷ 0 ∷ 0 ∷ 1 ∷ 1 ∷ 0 ∷ 3 ∷ 0 ∷ 0 ∷ 0 ∷ 0
    ∷ 2 ∷ 1 ∷ 0 ∷ 2 ∷ 0 ∷ 0 ∷ 0 ∷ 0 ∷ 3 ∷ 1 ∷ 0 ∷ 1 ∷ 0 ∷ 0 ∷ 0 ∷ 0 ∷ [])
    (1 ∷ 0 ∷ 0 ∷ 0 ∷ 0 ∷ 0 ∷ 0 ∷ 0 ∷ 1 ∷ 4 ∷ 0 ∷ 0 ∷ 1 ∷ 7 ∷ 0 ∷ 0 ∷ 1 ∷ 3 ∷ 0 ∷ 0 ∷ 1 ∷ 7 ∷ 0 ∷ 0
    ∷ 1 ∷ 2 ∷ 0 ∷ 0 ∷ 1 ∷ 7 ∷ 0 ∷ 0 ∷ 1 ∷ 1 ∷ 0 ∷ 0 ∷ 1 ∷ 7 ∷ 0 ∷ 0 ∷ [])

places : List ℕ
places = 4 ∷ 3 ∷ 2 ∷ 1 ∷ []

b-first : seek_of four places (98 ∷ []) ≡ met_at (Ok 1) 1
unfolding four places seek_of halve stands
b-first = refl

a-second : seek_of four places (97 ∷ []) ≡ met_at (Ok 0) 2
unfolding four places seek_of halve stands
a-second = refl

c-second : seek_of four places (99 ∷ []) ≡ met_at (Ok 2) 2
unfolding four places seek_of halve stands
c-second = refl

d-third : seek_of four places (100 ∷ []) ≡ met_at (Ok 3) 3
unfolding four places seek_of halve stands
d-third = refl

bb-missed : seek_of four places (98 ∷ 98 ∷ []) ≡ met_at (Err 2) 2
unfolding four places seek_of halve stands
bb-missed = refl

e-missed : seek_of four places (101 ∷ []) ≡ met_at (Err 4) 3
unfolding four places seek_of halve stands
e-missed = refl

upper-missed : seek_of four places (65 ∷ []) ≡ met_at (Err 0) 2
unfolding four places seek_of halve stands
upper-missed = refl

none-missed : seek_of four [] (97 ∷ []) ≡ met_at (Err 0) 0
unfolding seek_of halve
none-missed = refl

-- the rows get their places one after the other
put-in-order : used (rows_put four (index_of (0 ∷ 0 ∷ 0 ∷ 0 ∷ 0 ∷ []) 0) 0 5) ≡ places
unfolding four places rows_put row_put inserted seek_of halve stands scope_in
put-in-order = refl

-- a name stands before any longer one that it begins: "", a, a and a zero byte, ab, b, 0xff
beginnings : (order [] (97 ∷ []) ≡ Less) × (order (97 ∷ []) (97 ∷ 0 ∷ []) ≡ Less) × (order (97 ∷ 0 ∷ []) (97 ∷ 98 ∷ []) ≡ Less)
    × (order (97 ∷ 98 ∷ []) (98 ∷ []) ≡ Less) × (order (98 ∷ []) (255 ∷ []) ≡ Less)
beginnings = (refl, refl, refl, refl, refl)
