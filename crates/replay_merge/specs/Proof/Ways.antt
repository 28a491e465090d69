-- The way through the merge.
-- Assumes nothing.
use Rattle.std.specs.Prelude.{ℕ, ◌≡◌, List, length, take}
use Rattle.byte_slices.specs.Bytes.{part}
use Rattle.merge_stages.specs.Stages.{All, all_of}
use Rattle.merge_stages.specs.Stages as Stages
use Rattle.merge_elf.specs.Merge.{Left, merge_of}
use Rattle.replay_text.specs.declared.replies.Changed.{Changed}
use Rattle.replay_words.specs.declared.lend.Lend.{Lend}
use Rattle.replay_words.specs.Part as Part
use Rattle.replay_object.specs.declared.Object.{Object}
use Rattle.replay_object.specs.Told.{headers_in, entries_in, contents_in}
use Rattle.replay_words.specs.Part.{rest_after}
use Rattle.replay_merge.specs.Merge.{changed_as, Done, done_of, merge_all, merge_lists, merge_lent}

pub merged-done : (d : Lend) (o : Object) (rows file headers entries contents strings : List ℕ) (a : All) (u : Left) (c : Changed) (t : Done) (b n s x i k w m : ℕ)
    → b ≡ Part.cells_of d.bytes (length a.bytes) → n ≡ Part.wide_rows_of d.names (length a.names)
    → s ≡ Part.rows_of d.symbols (length a.symbols) → x ≡ Part.wide_rows_of d.sections (length a.sections)
    → i ≡ Part.rows_of d.inputs (length a.inputs) → k ≡ Part.cells_of d.lists (length a.lists)
    → w ≡ Part.rows_of d.work (length a.work) → m ≡ Part.cells_of d.ids (length a.ids)
    → headers ≡ headers_in rows o → entries ≡ entries_in rows o → contents ≡ contents_in rows o → strings ≡ part file 0 o.bytes
    → u
    ≡ merge_of (Stages.object_of headers entries contents strings o.strings)
    (all_of (take b a.bytes) (take n a.names) (take s a.symbols) (take x a.sections) (take i a.inputs) (take k a.lists)
    (take w a.work) (take m a.ids) a.stage)
    → c ≡ changed_as u.cells.stage.link u.answer
    → t
    ≡ done_of (rest_after u.cells.bytes b a.bytes) (rest_after u.cells.names n a.names) (rest_after u.cells.symbols s a.symbols)
    (rest_after u.cells.sections x a.sections) (rest_after u.cells.inputs i a.inputs) (rest_after u.cells.lists k a.lists)
    (rest_after u.cells.work w a.work) (rest_after u.cells.ids m a.ids) c
    → t ≡ merge_lent d o rows file a
unfolding merge_lent merge_lists merge_all
merged-done d o rows file headers entries contents strings a u c t b n s x i k w m p1 p2 p3 p4 p5 p6 p7 p8 e f g h j l q =
    simp (q, l, j, h, g, f, e, p8, p7, p6, p5, p4, p3, p2, p1)
