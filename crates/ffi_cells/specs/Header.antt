-- A link and an answer in the cells of a header: 0 to 8, 15 and 16 the link, 9 the refusal's number, 10 its place, 11 to 14 the values.
-- Assumes nothing.
use Rattle.std.specs.Prelude.{ℕ, Bool, true, false, cond, List, [], ◌∷◌, eqb, ltb, get_or, set, length}
use Rattle.cells.specs.Rows.{put_row}
use Rattle.link.specs.declared.Link.{Link}
use Rattle.link.specs.declared.cause.Refusal.{Refusal}
use Rattle.link.specs.Said.{Said, accepted, refusing}
use Rattle.ffi_cells.specs.declared.header.Reply.{Reply}

-- a cell that holds yes or no: 0 is no, any other number yes
unfoldable pub is_set : ℕ → Bool
is_set cell = cond (eqb cell 0) false true

unfoldable pub flag_of : Bool → ℕ
flag_of b = cond b 1 0

-- a call that is lent such a header returns 1 and changes nothing
unfoldable pub is_short : List ℕ → Bool
is_short h = ltb (length h) 24

-- the counts, with what stands apart from them
unfoldable pub link_with : List ℕ → ℕ → Bool → Bool → Link
link_with h k profile b =
    record {
      names = get_or h 0 0;
      bytes = get_or h 1 0;
      symbols = get_or h 2 0;
      sections = get_or h 3 0;
      inputs = get_or h 4 0;
      lists = get_or h 5 0;
      chains = get_or h 6 0;
      slots = get_or h 7 0;
      key = k;
      gabi = profile;
      broken = b;
    }

unfoldable pub link_in : List ℕ → Link
link_in h = link_with h (get_or h 15 0) (is_set (get_or h 16 0)) (is_set (get_or h 8 0))

-- ---- answers

abbrev pub result_of : ℕ → ℕ → ℕ → ℕ → Reply
result_of a b c d = record { number = 0; place = 0; first = a; second = b; third = c; fourth = d }

-- a refusal has no values
abbrev pub refusal_of : ℕ → ℕ → Reply
refusal_of number place = record { number = number; place = place; first = 0; second = 0; third = 0; fourth = 0 }

abbrev pub refused_of : Refusal → Reply
refused_of r = refusal_of r.number r.place

-- what a call says, with one value
abbrev pub saying : Said → Reply
saying (accepted v) = result_of v 0 0 0
saying (refusing r) = refused_of r

-- ---- the header after a call

-- cells 8 and 15, and the answer
unfoldable pub reply_in : List ℕ → ℕ → ℕ → Reply → List ℕ
reply_in h broken key r = put_row h 1 (broken ∷ r.number ∷ r.place ∷ r.first ∷ r.second ∷ r.third ∷ r.fourth ∷ key ∷ [])

-- cells 0 to 7
unfoldable pub counts_in : List ℕ → Link → List ℕ
counts_in h l =
    put_row h 0 (l.names ∷ l.bytes ∷ l.symbols ∷ l.sections ∷ l.inputs ∷ l.lists ∷ l.chains ∷ l.slots ∷ [])

-- cell 16
unfoldable pub profile_in : List ℕ → Link → List ℕ
profile_in h l = set h 16 (flag_of l.gabi)

-- the link that is handed back, and the answer
unfoldable pub header_of : List ℕ → Link → Reply → List ℕ
header_of h l r = reply_in (profile_in (counts_in h l) l) (flag_of l.broken) l.key r

-- the number that a call returns, and its header
pub record Told : Type 0 where
  pub number : ℕ
  pub header : List ℕ

abbrev pub told : ℕ → List ℕ → Told
told number header = record { number = number; header = header }

-- a changing call
unfoldable pub tell_of : List ℕ → Link → Reply → Told
tell_of h l r = told r.number (header_of h l r)

-- a call that doesn't change a link: cells 8, 15 and 16 keep their numbers
unfoldable pub answer_of : List ℕ → Reply → Told
answer_of h r = told r.number (reply_in h (get_or h 8 0) (get_or h 15 0) r)

-- ---- what is written where the other cells hold it already

-- cells 9 to 14
abbrev pub answer_in : List ℕ → Reply → List ℕ
answer_in h r = set (set (set (set (set (set h 9 r.number) 10 r.place) 11 r.first) 12 r.second) 13 r.third) 14 r.fourth

-- cells 16 and 8 as a link's, and the answer
abbrev pub settled : List ℕ → Reply → List ℕ
settled h r = answer_in (set (set h 16 (flag_of (is_set (get_or h 16 0)))) 8 (flag_of (is_set (get_or h 8 0)))) r
