-- What the calls return, and every lent cell after them.
-- Assumes nothing.
use Rattle.std.specs.Prelude.{ℕ, ◌+◌, ◌*◌, cond, List, eqb, ltb, get_or, length}
use Rattle.link.specs.Bounds.{lesser}
use Rattle.link.specs.Judge.{judge_of}
use Rattle.interner.specs.Names.{Store, store_of, find_of}
use Rattle.interner.specs.Calls.{Left, lent, intern_of, Resolved, resolve_of}
use Rattle.ffi_cells.specs.declared.header.Reply.{Reply}
use Rattle.ffi_cells.specs.Header.{is_short, link_in, result_of, refusal_of, refused_of, saying, Told, told, tell_of, answer_of}

pub record InternLeft : Type 0 where
  pub told : Told
  pub bytes : List ℕ
  pub names : List ℕ

abbrev pub intern_left : Told → List ℕ → List ℕ → InternLeft
intern_left t b n = record { told = t; bytes = b; names = n }

abbrev pub intern_told : List ℕ → Left → InternLeft
intern_told h w = intern_left (tell_of h w.store.link (saying w.said)) w.store.bytes w.store.names

unfoldable pub intern_call : List ℕ → List ℕ → List ℕ → List ℕ → InternLeft
intern_call h b n x = cond (is_short h) (intern_left (told 1 h) b n) (intern_told h (intern_of (store_of b n (link_in h)) x))

-- where a name starts in so many bytes, whatever its row holds
unfoldable pub first_byte : List ℕ → ℕ → ℕ → ℕ
first_byte n id bytes = lesser (get_or n (id * 8 + 0) 0) bytes

unfoldable pub part_reply : List ℕ → ℕ → ℕ → ℕ → ℕ → ℕ → Reply
part_reply n id bytes len number place = cond (eqb number 0) (result_of (first_byte n id bytes) len 0 0) (refusal_of number place)

abbrev pub resolve_reply : List ℕ → List ℕ → ℕ → Resolved → Reply
resolve_reply b n id w = part_reply n id (length b) (length w.name) w.refusal.number w.refusal.place

unfoldable pub resolve_call : List ℕ → List ℕ → List ℕ → ℕ → Told
resolve_call h b n id =
    cond (is_short h) (told 1 h) (answer_of h (resolve_reply b n id (resolve_of (store_of b n (link_in h)) (record { 0 = id }))))

-- 1 and the id of a name that was issued, else 0 and 0
unfoldable pub found_reply : ℕ → ℕ → Reply
found_reply id count = cond (ltb id count) (result_of 1 id 0 0) (result_of 0 0 0 0)

-- the counts are judged as for `resolve`; a broken link is accepted
unfoldable pub find_reply : Store → List ℕ → Reply
find_reply s x =
    cond (eqb (judge_of s.link (lent s)).number 0) (found_reply (find_of s.bytes s.names s.link x) s.link.names)
    (refused_of (judge_of s.link (lent s)))

unfoldable pub find_call : List ℕ → List ℕ → List ℕ → List ℕ → Told
find_call h b n x = cond (is_short h) (told 1 h) (answer_of h (find_reply (store_of b n (link_in h)) x))
