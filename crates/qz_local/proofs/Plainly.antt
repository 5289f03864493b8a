-- Guards that are plain: then what they say together is whether any spot that is so says it.
use Rattle.std.proofs.Common.{◌≡◌, Bool, true, false, ◌||◌, List, [], ◌∷◌, refl, sym, ap, ◌∙◌, ⊎_elim, if◌then◌else◌}
use Rattle.std.specs.List.{list_any}
use Rattle.qz_values.specs.declared.Ty.TheVariants.{Bool as Truth}
use Rattle.qz_values.specs.declared.Know.{Know}
use Rattle.qz_values.specs.declared.Know.TheVariants.{Known}
use Rattle.qz_values.specs.Values.{no}
use Rattle.qz_values.specs.Knowledge.{either, knows_yes}
use Rattle.qz_values.proofs.Connectives.{yes_or_no}
use Rattle.qz_nets.specs.declared.net.NetId.{NetId}
use Rattle.qz_meaning.specs.Landings.{Spot}
use Rattle.qz_control.specs.declared.circuit.Circuit.{Circuit}
use Rattle.qz_control.specs.Circuits.{View, Views, known, IsBool}
use Rattle.qz_control.specs.Leaves.{known_bit}
use Rattle.qz_control.specs.Guarded.{Guarded, chosen}
use Rattle.qz_control.proofs.Bits.{either_known, knows_known, or_false}
use Rattle.qz_moves.specs.declared.spots.Rest.{Rest}
use Rattle.qz_moves.specs.declared.spots.NetSpot.{NetSpot}
use Rattle.qz_moves.specs.Appended.{read_spots, AreTests}
use Rattle.qz_local.specs.Joined.{says, joined}
use Rattle.qz_local.specs.Plain.{LeavesAreKnown}
use Rattle.qz_local.proofs.Known.{Has, has_from, nets_known}

-- each guard is plain
abbrev pub ArePlain : Guarded → Type 0
ArePlain [] = Unit {0}
ArePlain (spot ∷ spots) = ((b : Bool) × (spot.1 ≡ known_bit b)) × ArePlain spots

either_step : (s b t : Bool) → (if s then either (known_bit b) (known_bit t) else known_bit b) ≡ known_bit (if s then b || t else b)
either_step true b t = either_known b t
either_step false b t = refl

any_said : (s t b rest : Bool) → ((if s then b || t else b) || rest) ≡ (b || (if t then s || rest else rest))
any_said true true true rest = refl
any_said true true false rest = refl
any_said true false true rest = refl
any_said true false false rest = refl
any_said false true b rest = refl
any_said false false b rest = refl

any_chosen : (one : Rest) (spot : Spot) (t : Bool) (others : List Spot)
    → list_any (says one) (if t then spot ∷ others else others) ≡ (if t then says one spot || list_any (says one) others else list_any (says one) others)
any_chosen one spot true others = refl
any_chosen one spot false others = refl

pub joined_plain : (one : Rest) (b : Bool) (spots : Guarded) → ArePlain spots
    → joined one (known_bit b) spots ≡ known_bit (b || list_any (says one) (chosen spots))
joined_plain one b [] plain = ap known_bit (sym (or_false b))
joined_plain one b (spot ∷ spots) plain =
    let t : Bool = plain.0.0 in
    let s : Bool = says one spot.0 in
    ap (λ k. joined one (if s then either (known_bit b) k else known_bit b) spots) plain.0.1
    ∙ ap (λ k. joined one k spots) (either_step s b t)
    ∙ joined_plain one (if s then b || t else b) spots plain.1
    ∙ ap known_bit (any_said s t b (list_any (says one) (chosen spots)) ∙ ap (λ more. b || more) (sym (any_chosen one spot.0 t (chosen spots))))
    ∙ ap (λ u. known_bit (b || list_any (says one) (if u then spot.0 ∷ chosen spots else chosen spots))) (sym (ap knows_yes plain.0.1 ∙ knows_known t))

-- a bool that is known is plain
plain_bit : (k : Know) → Has Truth k → (b : Bool) × (k ≡ known_bit b)
plain_bit k h = ⊎_elim (λ e. (true, h.is ∙ ap Known e)) (λ e. (false, h.is ∙ ap Known e)) (yes_or_no h.value h.of)

module _ (c : Circuit) (v : View) (views : Views v c) (leaves : LeavesAreKnown v) where
  plain_net : (id : NetId) → IsBool c id → (b : Bool) × (known v id ≡ known_bit b)
  plain_net id is =
      plain_bit (known v id)
      (nets_known c.table.nets.entries c.table.sound v.nets.leaf v.nets.know
      (λ n number ty at. has_from ty (v.nets.leaf number) (leaves number).0 (leaves number).1 (views.nets.leaves n number ty at))
      views.nets.nets id.0 Truth is.typed)

  pub plain_spots : (spots : List NetSpot) → AreTests c spots → ArePlain (read_spots v spots)
  plain_spots [] tests = tt
  plain_spots (spot ∷ spots) tests = (plain_net spot.when tests.0, plain_spots spots tests.1)

  -- what spots say together of one thing is whether any of those that are so says it
  pub said : (spots : List NetSpot) → AreTests c spots → (one : Rest)
      → joined one (Known no) (read_spots v spots) ≡ known_bit (list_any (says one) (chosen (read_spots v spots)))
  said spots tests one = joined_plain one false (read_spots v spots) (plain_spots spots tests)
