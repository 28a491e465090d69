-- How much of each store is lent, and how many cells of a slice of some length that is.
-- Assumes nothing.
use Rattle.std.specs.Prelude.{ℕ, ◌*◌, ◌/◌, cond, List, ◌++◌, drop, nat_lt}
use Rattle.replay_words.specs.Words.{number_at}
use Rattle.replay_words.specs.declared.lend.Lend.{Lend}

abbrev pub lend_of : ℕ → ℕ → ℕ → ℕ → ℕ → ℕ → ℕ → ℕ → Lend
lend_of symbols sections inputs names bytes lists work ids =
    record {
      symbols = symbols;
      sections = sections;
      inputs = inputs;
      names = names;
      bytes = bytes;
      lists = lists;
      work = work;
      ids = ids;
    }

-- the words of a line, in that order
unfoldable pub told_of : List ℕ → Lend
told_of line =
    lend_of (number_at line 1) (number_at line 2) (number_at line 3) (number_at line 4) (number_at line 5) (number_at line 6) (number_at line 7)
    (number_at line 8)

-- more than any store has
abbrev pub everything : ℕ
everything = 0xffffffffffffffff

abbrev pub all_lent : Lend
all_lent = lend_of everything everything everything everything everything everything everything everything

-- a store of which the first n cells were lent, once these have changed
abbrev pub rest_after : List ℕ → ℕ → List ℕ → List ℕ
rest_after lent n l = lent ++ drop n l

-- of len cells, those of so many rows of a width
unfoldable pub lent_of : ℕ → ℕ → ℕ → ℕ
lent_of width count len = cond (nat_lt count (len / width)) (count * width) len

unfoldable pub cells_of : ℕ → ℕ → ℕ
cells_of count len = cond (nat_lt count len) count len

-- rows of 8 cells
unfoldable pub rows_of : ℕ → ℕ → ℕ
rows_of count len = cond (nat_lt count (len / 8)) (count * 8) len

-- rows of 8 cells with a cell more for each behind them
unfoldable pub wide_rows_of : ℕ → ℕ → ℕ
wide_rows_of count len = cond (nat_lt count (len / 9)) (count * 9) len
