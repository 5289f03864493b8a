-- What the nets of a system see at a valuation: a view of the module's circuit.
use Rattle.std.proofs.Common.{◌≡◌, ℕ, List, Some, refl, ap, subst, ◌∙◌}
use Rattle.std.specs.Prelude.{slice_get}
use Rattle.std.proofs.lemmas.Option.{get_or_from_slice_get}
use Rattle.qz_values.specs.declared.Know.{Know}
use Rattle.qz_values.specs.declared.Know.TheVariants.{Unknown}
use Rattle.qz_nets.specs.Readings.{Reads, listed}
use Rattle.qz_syntax.specs.declared.expressions.Var.{Var}
use Rattle.qz_syntax.specs.declared.expressions.Var.TheVariants as var
use Rattle.qz_syntax.specs.declared.modules.Module.{Module}
use Rattle.qz_syntax.specs.declared.modules.Whole.{Whole}
use Rattle.qz_syntax.specs.declared.places.Mark.{Mark}
use Rattle.qz_meaning.specs.Scenes.{Scene}
use Rattle.qz_control.specs.declared.leaves.LeafKind.{LeafKind}
use Rattle.qz_control.specs.declared.leaves.LeafKind.TheVariants as kind
use Rattle.qz_control.specs.Leaves.{known_bit, Leaves, leaf_known as kind_known}
use Rattle.qz_control.specs.Circuits.{View, Views}
use Rattle.qz_system.specs.declared.parts.SystemLeaf.{SystemLeaf}
use Rattle.qz_system.specs.declared.parts.SystemLeaf.TheVariants as leaf
use Rattle.qz_system.specs.declared.parts.SystemParts.{SystemParts}
use Rattle.qz_system.specs.declared.valuation.Valuation.{Valuation}
use Rattle.qz_system.specs.Valuations.{rests_at}
use Rattle.qz_system.specs.Rounds.{leaf_known, leaves_known}
use Rattle.qz_single.specs.declared.compiled.Compiled.{Compiled}
use Rattle.qz_single.specs.Numbering.{formal_leaf, instance_place, leaf_of}
use Rattle.qz_single.specs.Made.{IsMade}
use Rattle.qz_meaning.specs.Instances.{local_instance}
use Rattle.qz_closing.proofs.Getting.{get_mapped}

-- the leaf of an instance
abbrev pub leaf_by : Module → Var → Mark → SystemLeaf
leaf_by m (var.Formal n) mark = formal_leaf m n
leaf_by m (var.Local n) mark = leaf.Now (instance_place m (local_instance n mark))
leaf_by m (var.Bound n) mark = leaf.Started

module _ (w : Whole) (parts : SystemParts) (v : Valuation) (before : List Know) where
  -- what is known of an instance by its leaf
  abbrev pub scene_of : Scene
  scene_of i = leaf_known parts v before (leaf_by w.module i.variable i.mark)

  abbrev pub started_bit : Know
  started_bit = known_bit v.started

  -- the leaves: whatever isn't a variable's or a place's says whether the program is started
  abbrev pub leaves_of : Leaves
  leaves_of = record {
    scene = scene_of;
    at = record { place = rests_at v; call = λ n. v.started };
    start = started_bit;
    drop = started_bit;
    act = started_bit;
    stay = started_bit;
    leave = started_bit;
    may_end = λ n. v.started;
    answers = record { ends_at_once = λ n mark. started_bit; ends = λ n. started_bit };
  }

  abbrev pub view_of : (ℕ → Know) → View
  view_of know = record { leaves = leaves_of; nets = record { leaf = listed (leaves_known parts v before); know = know } }

  module _ (c : Compiled) (made : IsMade w c parts) (know : ℕ → Know)
      (reads : Reads (record { leaf = listed (leaves_known parts v before); know = know }) parts.table) where
    same_kind : (k : LeafKind) → leaf_known parts v before (leaf_of w.module k) ≡ kind_known leaves_of k
    same_kind (kind.Formal n) = refl
    same_kind (kind.Local n mark) = refl
    same_kind (kind.At place) = refl
    same_kind kind.Start = refl
    same_kind kind.Drop = refl
    same_kind kind.Act = refl
    same_kind kind.Stay = refl
    same_kind kind.Leave = refl
    same_kind (kind.CallMayEnd n) = refl
    same_kind (kind.CallInside n) = refl
    same_kind (kind.CallEnds n) = refl
    same_kind (kind.CallEndsAtOnce n mark) = refl

    leaf_found : (number : ℕ) (k : LeafKind) → slice_get c.circuit.leaves.keys number ≡ Some k
        → listed (leaves_known parts v before) number ≡ kind_known leaves_of k
    leaf_found number k found =
        get_or_from_slice_get (leaves_known parts v before) number (kind_known leaves_of k) Unknown
        (get_mapped (λ one. leaf_known parts v before one) parts.leaves number (leaf_of w.module k)
        (ap (λ (l : List SystemLeaf). slice_get l number) made.leaves ∙ get_mapped (leaf_of w.module) c.circuit.leaves.keys number k found)
        ∙ ap Some (same_kind k))

    pub views : Views (view_of know) c.circuit
    views = record { nets = subst (Reads (view_of know).nets) made.table reads; leaves = leaf_found }
