-- The rows of specs/Examples.antt, computed.
-- Assumes nothing.
use Rattle.std.specs.Prelude.{refl, true, [], ◌∷◌}
use Rattle.gabi.specs.StringTable.{before_zero, ended, name_at}
use Rattle.cells.specs.Rows.{put_row}
use Rattle.byte_slices.specs.Bytes.{word_at, same}
use Rattle.link.specs.Bounds.{lesser}
use Rattle.link.specs.Judge.{judge_sections, judge_names, judge_lists, after_symbols, after_sections, judge_of}
use Rattle.keyed_hash.specs.Keyed as Keyed
use Rattle.interner.specs.Hash.{spread, head_cell}
use Rattle.interner.specs.Names.{chase, seek_of, find_from, find_of}
use Rattle.symbol.specs.Layout.{scope_in}
use Rattle.symbol_resolution.specs.Holder.{held_by, holder_of}
use Rattle.symbol_resolution.specs.RowsUndefined.{strong_undefined}
use Rattle.archive_index.specs.Index.{count_of, offset_of, after_of, cut_of}
use Rattle.archive_index.specs.Rows as Rows
use Rattle.archive_index.specs.Archives.{start_at, index_at, entries_from, member_from}
use Rattle.archive_index.specs.Open.{first_not, judge_each, end_fits, is_filled, judge_index, judge_from, judge_archives, open_of}
use Rattle.archive_index.specs.Open as Open
use Rattle.archive_walk.specs.Look.{judge_table, name_holder, removed_name, ties_row, tied_name}
use Rattle.archive_walk.specs.Names.{name_chain, along, bears_of, borne_from, chained, headed_of, noted_of}
use Rattle.archive_walk.specs.Walk.{begun_of, start_of, offer_of, marked, enqueue, tie_of, tie_all, removed_of, make_of, search_of, pass_of, walk_fits, go_of, next_of}
use Rattle.archive_laws.specs.Runs.{step_run, history, start_run}
use Rattle.archive_laws.specs.Examples.{All, Right, AllJudged, OfTheSecond, each_other, first_tied, given_twice, judgements, no_archives, twice, video_and_sound, in_both, nothing, p10, p10_in, p11, p11_in, removed_later, weak_ties, weak_ties_none, SixteenAccepted, LastOfAll, AllNext, next_refusals}

pub examples : All (in_both p10_in (in_both p11_in (in_both first_tied (in_both removed_later (in_both nothing (weak_ties ∷ weak_ties_none ∷ []))))))
unfolding before_zero ended name_at put_row same lesser judge_sections judge_names judge_lists after_symbols after_sections judge_of word_at Keyed.folded Keyed.mixed Keyed.hash_from Keyed.point_of Keyed.hash_of spread head_cell chase seek_of find_from find_of held_by holder_of count_of offset_of after_of cut_of Rows.descend Rows.spot_of Rows.enter_of Rows.enter_all Rows.no_heads Rows.rows_from start_at index_at entries_from member_from first_not judge_each end_fits is_filled judge_index judge_from judge_archives Open.judge_of open_of name_chain along bears_of borne_from chained headed_of noted_of judge_table name_holder removed_name strong_undefined ties_row tied_name begun_of start_of offer_of marked enqueue tie_of tie_all removed_of make_of search_of pass_of walk_fits go_of next_of step_run history start_run scope_in
examples =
    ((refl, refl, refl), ((refl, refl, refl), ((refl, refl, refl), ((refl, refl, refl), ((refl, refl, refl), ((refl, refl, refl), ((refl, refl, refl), ((refl, refl, refl), ((refl, refl, refl), ((refl, refl, refl), ((refl, refl, refl), ((refl, refl, refl), tt))))))))))))

-- for the list of all examples that are marked for proof
pub p10-right : Right p10
p10-right = examples.0

pub p10-gabi-right : Right (p10_in true)
p10-gabi-right = examples.1.0

pub p11-right : Right p11
p11-right = examples.1.1.0

pub p11-gabi-right : Right (p11_in true)
p11-gabi-right = examples.1.1.1.0

pub weak-ties-right : Right weak_ties
weak-ties-right = examples.1.1.1.1.1.1.1.1.1.1.0

pub weak-ties-none-right : Right weak_ties_none
weak-ties-none-right = examples.1.1.1.1.1.1.1.1.1.1.1.0

-- several archives
pub several : All (in_both given_twice (in_both each_other (in_both no_archives [])))
unfolding before_zero ended name_at put_row same lesser judge_sections judge_names judge_lists after_symbols after_sections judge_of word_at Keyed.folded Keyed.mixed Keyed.hash_from Keyed.point_of Keyed.hash_of spread head_cell chase seek_of find_from find_of held_by holder_of count_of offset_of after_of cut_of Rows.descend Rows.spot_of Rows.enter_of Rows.enter_all Rows.no_heads Rows.rows_from start_at index_at entries_from member_from first_not judge_each end_fits is_filled judge_index judge_from judge_archives Open.judge_of open_of name_chain along bears_of borne_from chained headed_of noted_of judge_table name_holder removed_name strong_undefined ties_row tied_name begun_of start_of offer_of marked enqueue tie_of tie_all removed_of make_of search_of pass_of walk_fits go_of next_of step_run history start_run scope_in
several = ((refl, refl, refl), ((refl, refl, refl), ((refl, refl, refl), ((refl, refl, refl), ((refl, refl, refl), ((refl, refl, refl), tt))))))

pub of-the-second : OfTheSecond twice × OfTheSecond video_and_sound
unfolding member_from count_of offset_of index_at start_at
of-the-second = (refl, refl)

pub all-judged : AllJudged judgements
unfolding before_zero ended name_at lesser count_of offset_of after_of cut_of start_at index_at entries_from first_not judge_each end_fits is_filled judge_index judge_from judge_archives Open.judge_of
all-judged = (refl, (refl, (refl, (refl, (refl, (refl, (refl, (refl, (refl, (refl, (refl, (refl, (refl, tt)))))))))))))

pub sixteen-accepted : SixteenAccepted
unfolding before_zero ended name_at lesser count_of offset_of after_of cut_of start_at index_at entries_from first_not judge_each end_fits is_filled judge_index judge_from judge_archives Open.judge_of
sixteen-accepted = (refl, refl)

pub last-of-all : LastOfAll
unfolding before_zero ended name_at lesser count_of offset_of after_of cut_of start_at index_at entries_from first_not judge_each end_fits is_filled judge_index judge_from judge_archives Open.judge_of
last-of-all = (refl, refl, refl)

pub all-next : AllNext next_refusals
unfolding before_zero ended name_at put_row same lesser judge_sections judge_names judge_lists after_symbols after_sections judge_of word_at Keyed.folded Keyed.mixed Keyed.hash_from Keyed.point_of Keyed.hash_of spread head_cell chase seek_of find_from find_of held_by holder_of count_of offset_of after_of cut_of Rows.descend Rows.spot_of Rows.enter_of Rows.enter_all Rows.no_heads Rows.rows_from start_at index_at entries_from member_from first_not judge_each end_fits is_filled judge_index judge_from judge_archives Open.judge_of open_of name_chain along bears_of borne_from chained headed_of noted_of judge_table name_holder removed_name strong_undefined ties_row tied_name begun_of start_of offer_of marked enqueue tie_of tie_all removed_of make_of search_of pass_of walk_fits go_of next_of step_run history start_run scope_in
all-next = (refl, (refl, (refl, (refl, (refl, tt)))))
