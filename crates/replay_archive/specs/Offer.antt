-- What a call for the next member answers, as the lists write it: `member OFFSET PASSES COUNT NAME ..` with the names required of the member by bytes, each
-- once; `done PASSES`; or a refusal.
-- Assumes nothing.
use Rattle.archive_walk.specs.declared.Offer.TheVariants.{Done, Member}
use Rattle.link.specs.declared.cause.Refusal.{Refusal}
use Rattle.archive_walk.specs.declared.Offer.{Offer}
use Rattle.std.specs.Prelude.{ℕ, zero, suc, ◌+◌, Bool, true, false, cond, List, [], ◌∷◌, ◌++◌, ◌==◌, Result, Ok, Err, Option, None, Some}
use Rattle.symbol.specs.Codes.{successor}
use Rattle.archive_index.specs.Rows.{required_at, member_at, stored_name}
use Rattle.replay_words.specs.Order.{before_of}
use Rattle.replay_text.specs.Answers.{Pieces, space_word, shown, numbered, refusal_text}

-- `member `
abbrev pub member_word : List ℕ
member_word = 109 ∷ 101 ∷ 109 ∷ 98 ∷ 101 ∷ 114 ∷ 32 ∷ []

-- `done `
abbrev pub done_word : List ℕ
done_word = 100 ∷ 111 ∷ 110 ∷ 101 ∷ 32 ∷ []

-- the name of an entry, the empty one where there is none
unfoldable pub entry_name : List ℕ → List ℕ → Option ℕ → List ℕ
entry_name s l None = []
entry_name s l (Some k) = stored_name s l k

-- entry k's name is required of the member whose first entry is r
unfoldable pub tied_to : List ℕ → ℕ → ℕ → Bool
tied_to l r k = cond (required_at l k == 1) (member_at l k == r) false

-- before the best so far
unfoldable pub before_best : List ℕ → List ℕ → Option ℕ → ℕ → Bool
before_best s l None k = true
before_best s l (Some best) k = before_of (stored_name s l k) (stored_name s l best)

-- behind the last one too
unfoldable pub nearer_of : List ℕ → List ℕ → Option ℕ → Option ℕ → ℕ → Bool
nearer_of s l None best k = before_best s l best k
nearer_of s l (Some last) best k = cond (before_of (stored_name s l last) (stored_name s l k)) (before_best s l best k) false

unfoldable pub nearest_of : List ℕ → List ℕ → ℕ → Option ℕ → Option ℕ → ℕ → Option ℕ
nearest_of s l r last best k = cond (tied_to l r k) (cond (nearer_of s l last best k) (Some k) best) best

-- of the n entries from k on, and the best so far
unfoldable pub nearest_from : List ℕ → List ℕ → ℕ → Option ℕ → ℕ → ℕ → Option ℕ → Option ℕ
nearest_from s l r last zero k best = best
nearest_from s l r last (suc n) k best = nearest_from s l r last n (k + 1) (nearest_of s l r last best k)

-- the required name that comes behind the last one, by bytes
unfoldable pub next_required : List ℕ → List ℕ → ℕ → ℕ → Option ℕ → Option ℕ
next_required s l c r last = nearest_from s l r last c 0 None

-- how many come from the entry on, at most n, and those before them
unfoldable pub count_from : List ℕ → List ℕ → ℕ → ℕ → ℕ → Option ℕ → ℕ → ℕ
count_from s l c r zero last m = m
count_from s l c r (suc n) None m = m
count_from s l c r (suc n) (Some k) m = count_from s l c r n (next_required s l c r (Some k)) (successor m)

unfoldable pub required_count : List ℕ → List ℕ → ℕ → ℕ → ℕ
required_count s l c r = count_from s l c r c (next_required s l c r None) 0

-- the n names behind the last one
unfoldable pub names_from : List ℕ → List ℕ → ℕ → ℕ → ℕ → Option ℕ → Pieces
names_from s l c r zero last = []
names_from s l c r (suc n) last =
    space_word ∷ shown (entry_name s l (next_required s l c r last)) ∷ names_from s l c r n (next_required s l c r last)

-- so many names, and they
unfoldable pub listed_text : List ℕ → List ℕ → ℕ → ℕ → ℕ → Pieces
listed_text s l c r n = numbered space_word n ++ names_from s l c r n None

unfoldable pub required_text : List ℕ → List ℕ → ℕ → ℕ → Pieces
required_text s l c r = listed_text s l c r (required_count s l c r)

unfoldable pub member_text : List ℕ → List ℕ → ℕ → ℕ → ℕ → ℕ → Pieces
member_text s l c o e p = (numbered member_word o ++ numbered space_word p) ++ required_text s l c (member_at l e)

unfoldable pub offer_text : List ℕ → List ℕ → ℕ → Result Offer Refusal → Pieces
offer_text s l c (Ok (Member j o e p)) = member_text s l c o e p
offer_text s l c (Ok (Done p)) = numbered done_word p
offer_text s l c (Err r) = refusal_text r
