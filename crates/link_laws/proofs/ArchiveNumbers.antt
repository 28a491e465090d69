-- The refusals of a walk and of admission.
-- Assumes nothing.
use Rattle.std.specs.Prelude.{ℕ, ◌/◌, refl, Bool, true, false, List, eqb, ltb, length, Result}
use Rattle.byte_slices.specs.Proof.Ways.{pick}
use Rattle.link.specs.declared.Link.{Link}
use Rattle.link.specs.declared.cause.Refusal.{Refusal}
use Rattle.link.specs.Proof.Passed.{judge-gives}
use Rattle.elf_object.specs.Judge as Elf
use Rattle.archive_index.specs.Archives.{Archives, last_end}
use Rattle.archive_index.specs.Open.{Opened, is_filled, open_of}
use Rattle.archive_walk.specs.declared.Walk.{Walk}
use Rattle.archive_walk.specs.Walk.{Started}
use Rattle.archive_walk.specs.Look.{judge_table}
use Rattle.archive_walk.specs.Look as Look
use Rattle.archive_walk.specs.Walk.{Step, begun_number, number_of, begun_of, start_of, offer_of, removed_of, make_of, search_of, pass_of, walk_fits, go_of, next_of}
use Rattle.elf_object.specs.Rows.{rows_in}
use Rattle.untaken_member.specs.Untaken as Untaken
use Rattle.untaken_member.specs.Untaken.{loaded_of, told_of, roomed_of, head_of, would_of}
use Rattle.shadowed_members.specs.Shadowed as Shadowed
use Rattle.shadowed_members.specs.Shadowed.{fits_index, shadowed_of}
use Rattle.object_requirement.specs.Matches as Matches
use Rattle.object_requirement.specs.Matches.{admission, offered_in, has_global_symbol, matches_of}
use Rattle.archive_walk.specs.Names.{required_of}
use Rattle.merge_laws.proofs.ByNumber.{elf-gives}
use Rattle.link_laws.proofs.Among.{Among}
use Rattle.link_laws.proofs.ArchiveGives.{each-gives, open-gives}
use Rattle.link_laws.specs.Table.{call_numbers}
use Rattle.link_laws.specs.Calls.{archive_start, archive_next, archive_shadowed, matches, would_define}

open-numbers : (key : ℕ) (s : Archives) (l : List ℕ) → Among (call_numbers (archive_start key s l)) (open_of s l).opened.refusal.number
open-numbers key s l =
    open-gives P (λ k. refl) refl s (each-gives P (λ k. refl) refl (is_filled s) (length s.ends) 20 refl) refl l
  where
    P : Refusal → Type 0
    P r = Among (call_numbers (archive_start key s l)) r.number

begun-numbers : (xs : List ℕ) (key n : ℕ) (o : Opened) → Among xs o.refusal.number → Among xs (begun_number (begun_of key n o).begun)
unfolding begun_of
begun-numbers xs key n o e =
    pick (λ (x : Started). Among xs (begun_number x.begun)) (eqb o.refusal.number 0) _ _ (λ a. refl) (λ a. e)

pub start-numbers : (key : ℕ) (s : Archives) (l : List ℕ) → Among (call_numbers (archive_start key s l)) (begun_number (start_of key s l).started.begun)
unfolding start_of
start-numbers key s l = begun-numbers (call_numbers (archive_start key s l)) key (last_end s) (open_of s l).opened (open-numbers key s l)

offered-numbers : (s : Archives) (l : List ℕ) (w : Walk) → Among (call_numbers (archive_next s l w)) (number_of (offer_of s l w).moved.offer)
unfolding offer_of
offered-numbers s l w =
    pick (λ (x : Step). Among (call_numbers (archive_next s l w)) (number_of x.moved.offer)) (ltb w.offered w.queued) _ _ (λ a. refl) (λ a. refl)

judged-table : (s : Archives) (l : List ℕ) (w : Walk) (t : Look.Table) → Among (call_numbers (archive_next s l w)) (judge_table t).number
unfolding judge_table
judged-table s l w t = judge-gives (λ (r : Refusal). Among (call_numbers (archive_next s l w)) r.number) (λ k. refl) refl t.link _

pub next-numbers : (s : Archives) (l : List ℕ) (w : Walk) (t : Look.Table) → Among (call_numbers (archive_next s l w)) (number_of (next_of s l w t).moved.offer)
unfolding next_of go_of pass_of search_of make_of
next-numbers s l w t =
    pick P w.done _ _ (λ a. refl)
    (λ a.
    pick P (walk_fits s l w) _ _
    (λ a.
    pick P (ltb w.offered w.queued) _ _ (λ a. offers l w)
    (λ a.
    pick P (eqb (judge_table t).number 0) _ _
    (λ a. pick P (ltb (removed_of s.bytes l t w.entries 0) w.entries) _ _ (λ a. refl) (λ a. offers _ _)) (λ a. judges)))
    (λ a. refl))
  where
    P : Step → Type 0
    P x = Among (call_numbers (archive_next s l w)) (number_of x.moved.offer)

    offers : (l : List ℕ) (w : Walk) → P (offer_of s l w)
    offers l w = offered-numbers s l w

    judges : Among (call_numbers (archive_next s l w)) (judge_table t).number
    judges = judged-table s l w t

pub shadowed-numbers : (s l : List ℕ) (w : Walk) (t : Look.Table) (c : List ℕ) → Among (call_numbers (archive_shadowed s l w c)) (begun_number (shadowed_of s l w t c).answer)
unfolding shadowed_of judge_table
shadowed-numbers s l w t c =
    pick P (eqb (judge_table t).number 0) _ _ (λ a. pick P (fits_index s l w) _ _ (λ b. pick P (ltb (length c) w.entries) _ _ (λ d. refl) (λ d. refl)) (λ b. refl))
    (λ a. judge-gives (λ (r : Refusal). Among (call_numbers (archive_shadowed s l w c)) r.number) (λ k. refl) refl t.link _)
  where
    P : Shadowed.Left → Type 0
    P x = Among (call_numbers (archive_shadowed s l w c)) (begun_number x.answer)

pub matches-numbers : (link : Link) (headers entries contents file s l : List ℕ) (w : Walk) (e : ℕ) → Among (call_numbers (matches headers entries contents file s l w e)) (Matches.number_of (matches_of link headers entries contents file s l w e))
unfolding matches_of
matches-numbers link headers entries contents file s l w e =
    pick P (eqb (Elf.judge_of headers entries (length contents) (length file)).number 0) _ _
    (λ a. pick P (offered_in s l w e) _ _ (λ b. either (has_global_symbol link.gabi headers entries file (required_of s l w e))) (λ b. refl))
    (λ a. elf-gives (λ (r : Refusal). Among (call_numbers (matches headers entries contents file s l w e)) r.number) (λ k. refl) refl headers entries (length contents) (length file))
  where
    P : Result Bool Refusal → Type 0
    P x = Among (call_numbers (matches headers entries contents file s l w e)) (Matches.number_of x)

    either : (b : Bool) → P (admission b)
    either true = refl
    either false = refl

pub would-numbers : (headers entries contents file : List ℕ) (t : Look.Table) (c : List ℕ)
    → Among (call_numbers (would_define headers entries contents file c)) (begun_number (would_of headers entries contents file t c).answer)
unfolding would_of roomed_of told_of head_of judge_table
would-numbers headers entries contents file t c =
    pick P (eqb (head_of headers entries contents file t).number 0) _ _
    (λ a. pick P (ltb (length c / 2) (rows_in (loaded_of headers entries file).entries)) _ _ (λ b. refl) (λ b. refl))
    (λ a.
    pick Q (eqb (judge_table t).number 0) _ _ (λ b. elf-gives Q (λ k. refl) refl headers entries (length contents) (length file))
    (λ b. judge-gives Q (λ k. refl) refl t.link _))
  where
    P : Untaken.Left → Type 0
    P x = Among (call_numbers (would_define headers entries contents file c)) (begun_number x.answer)

    Q : Refusal → Type 0
    Q r = Among (call_numbers (would_define headers entries contents file c)) r.number
