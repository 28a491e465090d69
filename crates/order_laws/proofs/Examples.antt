-- The rows of specs/Examples.antt, computed, and their lists against the premises.
-- Assumes nothing.
use Rattle.std.specs.Prelude.{ℕ, ◌≤◌, ◌<◌, ◌≡◌, refl, Bool, List, [], ◌∷◌, eqb, length, None, replicate}
use Rattle.std.specs.List.{All as AllOf}
use Rattle.std.proofs.Common.{arith}
use Rattle.std.proofs.lemmas.List.Elements.{All-from_recursion}
use Rattle.cells.specs.Proof.Split.{by-test}
use Rattle.gabi.specs.SymbolTable.{is_local, is_global, is_reference, is_definition}
use Rattle.link.specs.Said.{number_in}
use Rattle.symbol_laws.specs.History.{State}
use Rattle.upcoming_symbol.specs.declared.ElfSymbol.{ElfSymbol}
use Rattle.order_laws.specs.Premises.{EntryPasses, Passes, SectionPasses, shown, converted, undefined, RowsEnough, Premises, OneStrong}
use Rattle.order_laws.specs.Order.{AnyOrder}
use Rattle.order_laws.proofs.Run.{Among}
use Rattle.order_laws.proofs.Order.{ordered}
use Rattle.cells.specs.Rows.{put_row}
use Rattle.byte_slices.specs.Bytes.{word_at, same, copied}
use Rattle.link.specs.Bounds.{lesser}
use Rattle.link.specs.Judge as Judge
use Rattle.keyed_hash.specs.Keyed as Keyed
use Rattle.interner.specs.Hash.{spread, head_cell}
use Rattle.interner.specs.Names as Names
use Rattle.interner.specs.Calls as Interns
use Rattle.symbol.specs.Offset.{offset_of, word_of}
use Rattle.symbol.specs.Codes.{type_at, successor, file_at, visibility_at, value_at}
use Rattle.symbol.specs.Row.{symbol_at, set_row}
use Rattle.symbol.specs.Hidden.{hidden_code, hide_code, show_code, passes, hide_if, pass_hidden}
use Rattle.upcoming_symbol.specs.Judge as Fields
use Rattle.upcoming_symbol.specs.Upcoming.{in_section, conversion_from, converted_of, undefined_of, value_of, elf_row_of, library_code, external_row_of}
use Rattle.symbol_resolution.specs.Holder.{held_by, holder_of}
use Rattle.symbol_resolution.specs.Decide as Decide
use Rattle.symbol.specs.Layout.{scope_and_type, scope_in, type_in}
use Rattle.upcoming_symbol.specs.Upcoming.{common_of, common_by_binding}
use Rattle.symbol_resolution.specs.Apply.{note_name, set_section_symbol, note_section, append_of, replaced_in, joined, amended_in, apply_of}
use Rattle.symbols.specs.New.{clear_symbols, null_of, new_of}
use Rattle.symbols.specs.Add.{judge_add_of, issued_of, direct_holder_of, place_of, decided_of, committed_of, add_row_of, add_of}
use Rattle.symbols.specs.Lookup.{get_global_of}
use Rattle.add_list.specs.AddList.{turn_of, adds_of, add_list_of}
use Rattle.order_laws.specs.Examples.{All, cases, start, sections, mute, clear, sheet, strong_mute}

pub examples : All cases
unfolding start put_row same copied lesser Judge.judge_sections Judge.judge_names Judge.judge_lists Judge.after_symbols Judge.after_sections Judge.judge_of Judge.change_of word_at Keyed.folded Keyed.mixed Keyed.hash_from Keyed.point_of Keyed.hash_of spread head_cell Names.chase Names.seek_of Names.find_from Names.find_of Names.room_of Names.fits_of Names.linked Names.keep_of Interns.issue_of Interns.intern_of Interns.clear_heads Interns.new_of offset_of word_of type_at successor file_at visibility_at value_at symbol_at set_row scope_and_type scope_in type_in Fields.section_in_range Fields.elf_in_range Fields.external_in_range Fields.shown_of Fields.hidden_of Fields.judge_of in_section conversion_from converted_of undefined_of common_of common_by_binding value_of elf_row_of library_code external_row_of held_by holder_of Decide.weak_of Decide.reference_rank Decide.rank_of Decide.type_refusal Decide.section_cell Decide.section_room Decide.room_of Decide.new_of Decide.replace_of hidden_code hide_code show_code passes hide_if pass_hidden Decide.kept_of Decide.stays_of joined Decide.ranked_of Decide.known_of Decide.decide_of note_name set_section_symbol note_section append_of replaced_in amended_in apply_of clear_symbols null_of new_of judge_add_of issued_of direct_holder_of place_of decided_of committed_of add_row_of add_of get_global_of turn_of adds_of add_list_of
examples = (refl, (refl, (refl, (refl, (refl, (refl, (refl, (refl, (refl, (refl, tt))))))))))

-- ---- the sheet meets the premises

new-accepted : (profile : Bool) → number_in (new_of 0 profile (replicate {A = ℕ} 16 0) (replicate {A = ℕ} 27 0) (replicate {A = ℕ} 24 0) (replicate {A = ℕ} 90 0)).said ≡ 0
unfolding start put_row same copied lesser Judge.judge_sections Judge.judge_names Judge.judge_lists Judge.after_symbols Judge.after_sections Judge.judge_of Judge.change_of word_at Keyed.folded Keyed.mixed Keyed.hash_from Keyed.point_of Keyed.hash_of spread head_cell Names.chase Names.seek_of Names.find_from Names.find_of Names.room_of Names.fits_of Names.linked Names.keep_of Interns.issue_of Interns.intern_of Interns.clear_heads Interns.new_of offset_of word_of type_at successor file_at visibility_at value_at symbol_at set_row scope_and_type scope_in type_in Fields.section_in_range Fields.elf_in_range Fields.external_in_range Fields.shown_of Fields.hidden_of Fields.judge_of in_section conversion_from converted_of undefined_of common_of common_by_binding value_of elf_row_of library_code external_row_of held_by holder_of Decide.weak_of Decide.reference_rank Decide.rank_of Decide.type_refusal Decide.section_cell Decide.section_room Decide.room_of Decide.new_of Decide.replace_of hidden_code hide_code show_code passes hide_if pass_hidden Decide.kept_of Decide.stays_of joined Decide.ranked_of Decide.known_of Decide.decide_of note_name set_section_symbol note_section append_of replaced_in amended_in apply_of clear_symbols null_of new_of judge_add_of issued_of direct_holder_of place_of decided_of committed_of add_row_of add_of get_global_of turn_of adds_of add_list_of
new-accepted profile = refl

module _ (profile : Bool) where
  names-three : (start profile).link.names ≡ 3
  unfolding start put_row same copied lesser Judge.judge_sections Judge.judge_names Judge.judge_lists Judge.after_symbols Judge.after_sections Judge.judge_of Judge.change_of word_at Keyed.folded Keyed.mixed Keyed.hash_from Keyed.point_of Keyed.hash_of spread head_cell Names.chase Names.seek_of Names.find_from Names.find_of Names.room_of Names.fits_of Names.linked Names.keep_of Interns.issue_of Interns.intern_of Interns.clear_heads Interns.new_of offset_of word_of type_at successor file_at visibility_at value_at symbol_at set_row scope_and_type scope_in type_in Fields.section_in_range Fields.elf_in_range Fields.external_in_range Fields.shown_of Fields.hidden_of Fields.judge_of in_section conversion_from converted_of undefined_of common_of common_by_binding value_of elf_row_of library_code external_row_of held_by holder_of Decide.weak_of Decide.reference_rank Decide.rank_of Decide.type_refusal Decide.section_cell Decide.section_room Decide.room_of Decide.new_of Decide.replace_of hidden_code hide_code show_code passes hide_if pass_hidden Decide.kept_of Decide.stays_of joined Decide.ranked_of Decide.known_of Decide.decide_of note_name set_section_symbol note_section append_of replaced_in amended_in apply_of clear_symbols null_of new_of judge_add_of issued_of direct_holder_of place_of decided_of committed_of add_row_of add_of get_global_of turn_of adds_of add_list_of
  names-three = refl

  rows-lent : length (start profile).symbols ≡ 24
  unfolding start put_row same copied lesser Judge.judge_sections Judge.judge_names Judge.judge_lists Judge.after_symbols Judge.after_sections Judge.judge_of Judge.change_of word_at Keyed.folded Keyed.mixed Keyed.hash_from Keyed.point_of Keyed.hash_of spread head_cell Names.chase Names.seek_of Names.find_from Names.find_of Names.room_of Names.fits_of Names.linked Names.keep_of Interns.issue_of Interns.intern_of Interns.clear_heads Interns.new_of offset_of word_of type_at successor file_at visibility_at value_at symbol_at set_row scope_and_type scope_in type_in Fields.section_in_range Fields.elf_in_range Fields.external_in_range Fields.shown_of Fields.hidden_of Fields.judge_of in_section conversion_from converted_of undefined_of common_of common_by_binding value_of elf_row_of library_code external_row_of held_by holder_of Decide.weak_of Decide.reference_rank Decide.rank_of Decide.type_refusal Decide.section_cell Decide.section_room Decide.room_of Decide.new_of Decide.replace_of hidden_code hide_code show_code passes hide_if pass_hidden Decide.kept_of Decide.stays_of joined Decide.ranked_of Decide.known_of Decide.decide_of note_name set_section_symbol note_section append_of replaced_in amended_in apply_of clear_symbols null_of new_of judge_add_of issued_of direct_holder_of place_of decided_of committed_of add_row_of add_of get_global_of turn_of adds_of add_list_of
  rows-lent = refl

  -- a line that isn't local
  line-passes : (e : ElfSymbol) (i : ℕ) → e.kind ≤ 3 → e.section < 10 → e.visibility ≡ 0 → 1 ≤ e.binding → e.binding ≤ 2 → SectionPasses sections e → i < 3
      → EntryPasses (start profile) sections e (record { 0 = i }) None
  line-passes e i k n v b c q h =
      record {
        type = k;
        no_common = λ z. omega (arith, z, n);
        named = omega (arith, names-three, h);
        filed = tt;
        scope = shown v c;
        section = q;
        cell = λ z. absurd (omega (arith, z, b));
      }

  each : AllOf (Passes (start profile) sections) sheet
  each =
      All-from_recursion (Passes (start profile) sections) sheet (
        line-passes _ 1 (omega arith) (omega arith) refl (omega arith) (omega arith) (converted (omega arith) (λ q. let z : ◌≡◌ {A = ℕ} 3 0 = q in omega arith)) (omega arith),
        (
          line-passes _ 1 (omega arith) (omega arith) refl (omega arith) (omega arith) (converted (omega arith) (λ q. let z : ◌≡◌ {A = ℕ} 4 0 = q in omega arith)) (omega arith),
          (
            line-passes _ 1 (omega arith) (omega arith) refl (omega arith) (omega arith) (undefined refl) (omega arith),
            (
              line-passes _ 2 (omega arith) (omega arith) refl (omega arith) (omega arith) (undefined refl) (omega arith),
              tt,
            ),
          ),
        ),
      )

  one-strong : OneStrong sheet
  unfolding is_global is_reference is_definition
  one-strong name = by-test (eqb 1 name.0) (λ a. rw a (by-test (eqb 2 name.0) (λ b. rw b (omega arith)) (λ b. rw b (omega arith)))) (λ a. rw a (by-test (eqb 2 name.0) (λ b. rw b (omega arith)) (λ b. rw b (omega arith))))

  enough : RowsEnough (start profile) sheet
  unfolding is_local lesser
  enough =
      record {
        names = 1 ∷ 2 ∷ [];
        among =
            All-from_recursion (Among (start profile) sections (1 ∷ 2 ∷ [])) sheet
            (λ z. (0, omega arith, refl), ((λ z. (0, omega arith, refl)), ((λ z. (0, omega arith, refl)), ((λ z. (1, omega arith, refl)), tt))));
        enough = rw rows-lent (omega arith);
      }

  pub sheet-premises : Premises (start profile) sections sheet
  sheet-premises = record { each = each; one_strong = one-strong; rows = enough }

  -- so the theorem speaks of it
  pub sheet-order : AnyOrder (start profile) sections (replicate {A = ℕ} 4 7) profile sheet
  unfolding start
  sheet-order =
      ordered 0 profile (replicate {A = ℕ} 16 0) (replicate {A = ℕ} 27 0) (replicate {A = ℕ} 24 0) (replicate {A = ℕ} 90 0) (new-accepted profile) (mute ∷ clear ∷ []) sections sheet
      (replicate {A = ℕ} 4 7) sheet-premises (omega arith)

-- ---- two strong definitions of a name don't

pub twice-not : (s : State) (conversion : List ℕ) → Premises s conversion (strong_mute ∷ strong_mute ∷ []) → ⊥
unfolding is_global is_reference is_definition
twice-not s conversion p = let two : ◌≤◌ 2 1 = p.one_strong (record { 0 = 1 }) in omega arith
