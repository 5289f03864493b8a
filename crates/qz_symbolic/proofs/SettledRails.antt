-- What instances settle to, from the stores with which they begin and their tallies.
use Rattle.std.proofs.Common.{◌≡◌, ℕ, suc, Bool, true, false, List, [], ◌∷◌, length, Option, Some, refl, sym, ap, ap₂, subst, ◌∙◌, arith}
use Rattle.std.specs.Prelude.{◌&&◌, slice_get, if◌then◌else◌}
use Rattle.std.specs.Option.{option_map_or}
use Rattle.qz_dd.specs.declared.node.DdId.{DdId}
use Rattle.qz_dd.specs.declared.table.Table.{Table}
use Rattle.qz_dd.specs.Tables.{Reading, Reads, Extends}
use Rattle.qz_values.specs.declared.Ty.{Ty}
use Rattle.qz_values.specs.declared.Know.TheVariants.{Unknown}
use Rattle.qz_values.specs.Values.{value_of}
use Rattle.qz_rails.specs.Bits.{number_of, bits_in, choices}
use Rattle.qz_rails.specs.Rails.{CarriesKnow, know_in}
use Rattle.qz_rails.proofs.Selecting.{choices_true, choices_false}
use Rattle.qz_syntax.specs.declared.places.Store.{Store}
use Rattle.qz_meaning.specs.Scenes.{default_store}
use Rattle.qz_meaning.specs.Verdicts.{Verdict, Nobody, Open, One, Torn}
use Rattle.qz_meaning.specs.Settling.{with_pending, settled, settled_later}
use Rattle.qz_tallies.specs.declared.tally.Tally.{Tally}
use Rattle.qz_tallies.specs.Tallies.{verdict_in}
use Rattle.qz_tallies.specs.Stores.{later_known}
use Rattle.qz_system.specs.declared.parts.Cell.{Cell}
use Rattle.qz_system.specs.declared.parts.Inst.{Inst}
use Rattle.qz_system.specs.declared.parts.SystemParts.{SystemParts}
use Rattle.qz_system.specs.declared.valuation.Valuation.{Valuation}
use Rattle.qz_system.specs.Parts.{instance_type}
use Rattle.qz_system.specs.Rounds.{stored, begins, settles}
use Rattle.qz_symbolic.specs.declared.rails.InstanceRails.{InstanceRails}
use Rattle.qz_symbolic.specs.Telling.{AreOfType, later_told, later_in}
use Rattle.qz_symbolic.specs.Views.{Views}
use Rattle.qz_symbolic.specs.Settled.{is_nobody, IsSettledBy}
use Rattle.qz_symbolic.proofs.Growing.{rail_grows, views_before}
use Rattle.qz_symbolic.proofs.Acting.{instance_type_read}

pub bits_long : (reading : Reading) (numbers : List DdId) → length (bits_in reading numbers) ≡ length numbers
bits_long reading [] = refl
bits_long reading (x ∷ xs) = ap suc (bits_long reading xs)

-- a store of these bits
abbrev made : Ty → Bool → ℕ → Store
made ty mark n = record { value = value_of ty n; pending = mark }

-- the cell's store where it is kept, and a new one elsewhere
pub begun : (ty : Ty) (k mark p : Bool) (xs ds bits : List Bool) (store : Bool × ℕ) → length xs ≡ length ds → number_of ds ≡ 0
    → mark ≡ store.0 → number_of xs ≡ store.1 → p ≡ k && mark → bits ≡ choices k xs ds
    → made ty p (number_of bits) ≡ (if k then stored ty store else default_store ty)
begun ty true mark p xs ds bits store long none mark_is number_is p_is bits_are =
    ap₂ (made ty) (p_is ∙ mark_is) (ap number_of (bits_are ∙ choices_true xs ds long) ∙ number_is)
begun ty false mark p xs ds bits store long none mark_is number_is p_is bits_are =
    ap₂ (made ty) p_is (ap number_of (bits_are ∙ choices_false xs ds long) ∙ none)

-- a delayed value by what is known of it and where it is absent
later_of : (ty : Ty) (writers : Verdict) → later_told (is_nobody writers) (later_known ty (settled_later writers)) ≡ settled_later writers
later_of ty Nobody = refl
later_of ty Open = refl
later_of ty (One v) = refl
later_of ty Torn = refl

-- an instance's rails, from what each of them says
pub settled_rails : (table : Table) (parts : SystemParts) (n : ℕ) (one : Inst) (cell : Cell) → slice_get parts.instances n ≡ Some one → slice_get parts.cells one.cell ≡ Some cell
    → (now later : List Tally) (writers delayed : Tally) → slice_get now n ≡ Some writers → slice_get later n ≡ Some delayed
    → (rails : InstanceRails) → AreOfType table cell.ty rails
    → ((reading : Reading) (v : Valuation) → Views table parts v reading → know_in reading cell.ty rails.now
    ≡ settled cell.class cell.ty (begins parts v one cell) (with_pending (begins parts v one cell) (verdict_in reading cell.ty writers)))
    → CarriesKnow table cell.ty rails.later (λ reading. later_known cell.ty (settled_later (verdict_in reading cell.ty delayed)))
    → ((reading : Reading) → Reads reading table → reading.values rails.absent.0 ≡ is_nobody (verdict_in reading cell.ty delayed))
    → IsSettledBy table parts n now later rails
settled_rails table parts n one cell at there now later writers delayed now_at later_at rails fits says_now says_later absent = record {
  fits = λ ty is. subst (λ t. AreOfType table t rails) (same ty is) fits;
  says_now = λ ty other tally is other_at tally_at reading v views.
      let ones : Some one ≡ Some other = sym at ∙ other_at in
      let one_is : one ≡ other = cc in
      let tallies : Some writers ≡ Some tally = sym now_at ∙ tally_at in
      let tally_is : writers ≡ tally = cc in
      ap (λ t. know_in reading t rails.now) (sym (same ty is))
      ∙ says_now reading v views
      ∙ ap (λ (o : Option Cell). option_map_or (λ (c : Cell). settled c.class c.ty (begins parts v one c) (with_pending (begins parts v one c) (verdict_in reading cell.ty writers))) o Unknown) (sym there)
      ∙ ap₂ (λ (i : Inst) (w : Verdict). settles parts v i w) one_is (ap₂ (λ (t : Ty) (x : Tally). verdict_in reading t x) (same ty is) tally_is);
  says_later = λ ty tally is tally_at reading v views.
      let tallies : Some delayed ≡ Some tally = sym later_at ∙ tally_at in
      let tally_is : delayed ≡ tally = cc in
      ap (λ t. later_in reading t rails) (sym (same ty is))
      ∙ ap₂ later_told (absent reading views.reads) (says_later reading views.reads)
      ∙ later_of cell.ty (verdict_in reading cell.ty delayed)
      ∙ ap settled_later (ap₂ (λ (t : Ty) (x : Tally). verdict_in reading t x) (same ty is) tally_is);
}
  where
    same : (ty : Ty) → instance_type parts n ≡ Some ty → cell.ty ≡ ty
    same ty is = let both : Some cell.ty ≡ Some ty = sym (instance_type_read parts n one cell at there) ∙ is in cc

pub settled_grows : (first second : Table) (parts : SystemParts) (n : ℕ) (now later : List Tally) (rails : InstanceRails) → Extends first second
    → IsSettledBy first parts n now later rails → IsSettledBy second parts n now later rails
settled_grows first second parts n now later rails grows is = record {
  fits = λ ty typed.
      let fits = is.fits ty typed in
      let longer = grows.longer in
      record {
        now = rail_grows first second ty rails.now grows fits.now;
        later = rail_grows first second ty rails.later grows fits.later;
        absent = let small = fits.absent in omega (arith, small, longer);
      };
  says_now = λ ty one tally typed at there reading v views. is.says_now ty one tally typed at there reading v (views_before first second parts v reading grows views);
  says_later = λ ty tally typed there reading v views. is.says_later ty tally typed there reading v (views_before first second parts v reading grows views);
}
