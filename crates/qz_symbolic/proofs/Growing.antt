-- What stays as the table of diagrams grows.
use Rattle.std.proofs.Common.{◌≡◌, ℕ, ◌<◌, List, ◌++◌, take, drop, length, append-nil, sym, ap, ◌∙◌, arith}
use Rattle.std.specs.List.{All}
use Rattle.qz_dd.specs.declared.node.DdId.{DdId}
use Rattle.qz_dd.specs.declared.table.Table.{Table}
use Rattle.std.proofs.Math.Seq.{take-length}
use Rattle.std.proofs.lemmas.List.{drop_all}
use Rattle.qz_dd.specs.Tables.{Reading, Extends, count}
use Rattle.qz_tallies.specs.declared.stored.Stored.{Stored}
use Rattle.qz_system.specs.declared.parts.Cell.{Cell}
use Rattle.qz_system.specs.declared.parts.SystemParts.{SystemParts}
use Rattle.qz_system.specs.declared.valuation.Valuation.{Valuation}
use Rattle.qz_values.specs.declared.Ty.{Ty}
use Rattle.qz_rails.specs.declared.rail.Rail.{Rail}
use Rattle.qz_rails.specs.Rails.{IsRail}
use Rattle.qz_system.specs.declared.parts.SystemLeaf.{SystemLeaf}
use Rattle.qz_symbolic.specs.declared.rails.InstanceRails.{InstanceRails}
use Rattle.qz_symbolic.specs.Telling.{AreInstanceRails}
use Rattle.qz_symbolic.specs.Knowing.{IsLeafRail}
use Rattle.qz_symbolic.specs.Views.{Views, IsStoreOf, AreStoresOf, ArePlaces, AreLives}

pub grows : (first second third : Table) → Extends first second → Extends second third → Extends first third
grows first second third one two =
    let a = one.longer in
    let b = two.longer in
    record {
      vars = two.vars ∙ one.vars;
      longer = omega (arith, a, b);
      values = λ d below bits. two.values d (omega (arith, below, a)) bits ∙ one.values d below bits;
      levels = λ d below. two.levels d (omega (arith, below, a)) ∙ one.levels d below;
      reads = λ reading reads. one.reads reading (two.reads reading reads);
    }

pub all_grow : (first second : Table) → Extends first second → (numbers : List DdId) → All (λ x. x.0 < count first) numbers → All (λ x. x.0 < count second) numbers
all_grow first second one numbers all = λ k d below. let small = all k d below in let a = one.longer in omega (arith, small, a)

pub views_before : (first second : Table) (parts : SystemParts) (v : Valuation) (reading : Reading) → Extends first second → Views second parts v reading → Views first parts v reading
views_before first second parts v reading one views = record { reads = one.reads reading views.reads; spells = views.spells }

pub store_grows : (first second : Table) (parts : SystemParts) (n : ℕ) (cell : Cell) (stored : Stored) → Extends first second
    → IsStoreOf first parts n cell stored → IsStoreOf second parts n cell stored
store_grows first second parts n cell stored one is =
    let longer = one.longer in
    record {
      fits = record {
        pending = let small = is.fits.pending in omega (arith, longer, small);
        bits = all_grow first second one stored.bits.items is.fits.bits;
        width = is.fits.width;
      };
      pending = λ reading v views. is.pending reading v (views_before first second parts v reading one views);
      bits = λ reading v views. is.bits reading v (views_before first second parts v reading one views);
    }

-- a list that is written back as long as it was
pub written_back : {A : Type 0} (n : ℕ) (new old : List A) → length new ≡ length old → n ≡ length old → take n (new ++ drop (length new) old) ≡ new
written_back n new old same long =
    let gone = drop_all (length new) old (omega (arith, same)) in
    ap (λ xs. take n (new ++ xs)) gone ∙ ap (take n) (append-nil new) ∙ ap (λ m. take m new) (long ∙ sym same) ∙ take-length new

pub places_grow : (first second : Table) (parts : SystemParts) (places : List DdId) → Extends first second → ArePlaces first parts places → ArePlaces second parts places
places_grow first second parts places one are = record {
  below = all_grow first second one places are.below;
  says = λ reading v views. are.says reading v (views_before first second parts v reading one views);
}

pub stores_grow : (first second : Table) (parts : SystemParts) (stores : List Stored) → Extends first second → AreStoresOf first parts stores → AreStoresOf second parts stores
stores_grow first second parts stores one are = record {
  long = are.long;
  each = λ n cell stored there at. store_grows first second parts n cell stored one (are.each n cell stored there at);
}

pub lives_grow : (first second : Table) (parts : SystemParts) (lives : List DdId) → Extends first second → AreLives first parts lives → AreLives second parts lives
lives_grow first second parts lives one are = record {
  long = are.long;
  below = all_grow first second one lives are.below;
  says = λ reading v views. are.says reading v (views_before first second parts v reading one views);
}

pub rail_grows : (first second : Table) (ty : Ty) (rail : Rail) → Extends first second → IsRail first ty rail → IsRail second ty rail
rail_grows first second ty rail one is =
    let longer = one.longer in
    record {
      clash = let small = is.clash in omega (arith, small, longer);
      known = let small = is.known in omega (arith, small, longer);
      bits = all_grow first second one rail.bits.items is.bits;
      width = is.width;
    }

pub leaf_rail_grows : (first second : Table) (parts : SystemParts) (before : List InstanceRails) (leaf : SystemLeaf) (rail : Rail) → Extends first second
    → IsLeafRail first parts before leaf rail → IsLeafRail second parts before leaf rail
leaf_rail_grows first second parts before leaf rail one is = record {
  fits = λ ty typed. rail_grows first second ty rail one (is.fits ty typed);
  says = λ ty typed reading v views. is.says ty typed reading v (views_before first second parts v reading one views);
}

pub instances_grow : (first second : Table) (parts : SystemParts) (rails : List InstanceRails) → Extends first second → AreInstanceRails first parts rails → AreInstanceRails second parts rails
instances_grow first second parts rails one are = record {
  count = are.count;
  each = λ n ty rail typed at.
      let is = are.each n ty rail typed at in
      let longer = one.longer in
      record {
        now = rail_grows first second ty rail.now one is.now;
        later = rail_grows first second ty rail.later one is.later;
        absent = let small = is.absent in omega (arith, small, longer);
      };
}
