-- The next line of the input. What a read brings isn't known; the line is the next one of what the buffer holds afterwards.
-- Assumes nothing.
use Rattle.std.specs.Prelude.{ℕ, ◌+◌, ◌-◌, ◌<◌, ◌≤◌, ◌≡◌, Bool, true, false, cond, List, ltb, length, take, drop}
use Rattle.std.proofs.Math.Seq.{paste}
use Rattle.text.specs.declared.lines.Lines.{Lines}
use Rattle.text.specs.Unread.{lines_at}
use Rattle.text.specs.Line.{Step, end_in, settle_of, is_more}

-- ---- what isn't handed out yet, at the front of the buffer

pub record Front : Type 0 where
  pub bytes : List ℕ
  pub lines : Lines

abbrev pub front_as : List ℕ → Lines → Front
front_as b l = record { bytes = b; lines = l }

abbrev pub seen_all : ℕ → Bool → Bool → Lines
seen_all n over failed = lines_at 0 n n over failed

-- nothing where it doesn't lie in the buffer
unfoldable pub front_of : List ℕ → Lines → Front
front_of b l =
    cond (ltb l.end l.start) (front_as b (seen_all 0 true l.failed))
    (cond (ltb (length b) l.end) (front_as b (seen_all 0 true l.failed))
    (front_as (paste b 0 (drop l.start b) (l.end - l.start)) (seen_all (l.end - l.start) l.over l.failed)))

-- ---- reads

-- more bytes behind a buffer's first ones, as far as it has room
unfoldable pub longer_of : ℕ → ℕ → ℕ → ℕ
longer_of end more len = cond (ltb len end) end (cond (ltb (len - end) more) len (end + more))

-- one read: what is in the buffer stays, and what comes is put behind it; over where nothing comes
pub record ReadOn (b : List ℕ) (l : Lines) (b' : List ℕ) (r : Lines) : Type 0 where
  pub start : r.start ≡ l.start
  pub seen : r.seen ≡ l.seen
  pub before : take l.end b' ≡ take l.end b
  pub behind : l.end ≤ r.end
  pub grown : r.over ≡ false → l.end < r.end

-- reads up to the next line: what the buffer holds then begins with the n bytes that it held
pub record ReadLine (b : List ℕ) (n : ℕ) (b' : List ℕ) (r : Step) : Type 0 where
  pub end : ℕ
  pub over : Bool
  pub failed : Bool
  pub before : take n b' ≡ take n b
  pub behind : n ≤ end
  pub line : r ≡ settle_of b' (lines_at 0 n end over failed)

-- a line that is in the buffer is handed out without a read
abbrev pub NextBy : Bool → List ℕ → Lines → List ℕ → Step → Type 0
NextBy false b l b' r = (b' ≡ b) × (r ≡ settle_of b l)
NextBy true b l b' r = ReadLine (front_of b (settle_of b l).lines).bytes (front_of b (settle_of b l).lines).lines.end b' r

abbrev pub NextLine : List ℕ → Lines → List ℕ → Step → Type 0
NextLine b l = NextBy (is_more (settle_of b l).taken) b l

-- ---- a line passed over

-- of the first n bytes, what is behind their first line end is left; nothing where they have none
unfoldable pub past_at : ℕ → ℕ → Bool → Bool → Lines
past_at at n over failed =
    cond (ltb at n) (lines_at (at + 1) (at + 1) n over failed) (lines_at 0 0 0 over failed)

unfoldable pub past_of : List ℕ → ℕ → Bool → Bool → Lines
past_of b n over failed = past_at (end_in b 0 n) n over failed

-- n bytes were read last
pub record Skipped (b : List ℕ) (r : Lines) : Type 0 where
  pub end : ℕ
  pub over : Bool
  pub failed : Bool
  pub past : r ≡ past_of b end over failed
