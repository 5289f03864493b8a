-- A right side that is added to a table whose right sides read registers and earlier wires alone.
use Rattle.std.proofs.Common.{suc, ◌≡◌, ℕ, ◌<◌, Bool, true, false, List, [], ◌∷◌, ◌++◌, length, get_or, slice_get, Some, refl, ap, sym, ◌∙◌, subst, arith, inl, inr, ◌⊎◌, if◌then◌else◌, length-append}
use Rattle.std.specs.List.{list_any, AllByRecursion}
use Rattle.std.proofs.lemmas.Option.{slice_get_within, slice_get-get_or, get_or_from_slice_get}
use Rattle.std.proofs.Math.ListN.{get_or-append}
use Rattle.std.proofs.Math.Seq.{get_or-append_seam}
use Rattle.indexmap.specs.IndexSet.{insert_key}
use Rattle.qz_verilog.specs.declared.nets.Ref.{Ref}
use Rattle.qz_verilog.specs.declared.nets.Ref.TheVariants as net
use Rattle.qz_verilog.specs.declared.nets.Rhs.{Rhs}
use Rattle.qz_first.specs.declared.wires.Wires.{Wires}
use Rattle.qz_first.specs.BitNets.{IsRightSide, IsDeclared}
use Rattle.qz_first.specs.WireTable.{rights, Has, IsSound, Extends}
use Rattle.qz_first.specs.declared.driven.DrivenWrite.{DrivenWrite}
use Rattle.qz_first.specs.declared.driven.DrivenPlace.{DrivenPlace}
use Rattle.qz_first.specs.Driven.{DeclaresRests, DeclaresWrites, DeclaresRow}

-- what was declared stays so
pub still_has : (registers : ℕ) (old new : Wires) (net : Ref) → Extends old new → Has registers old net → Has registers new net
still_has registers old new (net.Input k) grows has = absurd has.declared
still_has registers old new (net.Reg k) grows has = record { declared = has.declared }
still_has registers old new (net.Wire k) grows has = record { declared = let a = has.declared in let b = grows.longer in omega arith }

abbrev pub AreSound : ℕ → List Rhs → Type 0
AreSound registers rights = (number : ℕ) (right : Rhs) → slice_get rights number ≡ Some right → IsRightSide registers number right

sound_push : (registers : ℕ) (rights : List Rhs) (right : Rhs) → AreSound registers rights → IsRightSide registers (length rights) right
    → AreSound registers (rights ++ right ∷ [])
sound_push registers rights right sound reads = λ number other at. by number other at (split number (slice_get_within (rights ++ right ∷ []) number other at))
  where
    split : (number : ℕ) → number < length (rights ++ right ∷ []) → (number < length rights) ⊎ (number ≡ length rights)
    split number within = let e = length-append rights (right ∷ []) in grind arith

    by : (number : ℕ) (other : Rhs) → slice_get (rights ++ right ∷ []) number ≡ Some other → (number < length rights) ⊎ (number ≡ length rights)
        → IsRightSide registers number other
    by number other at (inl within) =
        sound number other
        (slice_get-get_or rights number right within
        ∙ ap Some (sym (get_or-append rights (right ∷ []) right number within) ∙ get_or_from_slice_get (rights ++ right ∷ []) number other right at))
    by number other at (inr here) =
        let same : right ≡ other =
        sym (get_or-append_seam rights right [] right) ∙ ap (λ k. get_or (rights ++ right ∷ []) k right) (sym here)
        ∙ get_or_from_slice_get (rights ++ right ∷ []) number other right at in
        let P : ℕ → Type 0 = λ k. IsRightSide registers k right in
        subst (λ (r : Rhs). IsRightSide registers number r) same (subst P (sym here) reads)

pub sound_insert : (eq : Rhs → Rhs → Bool) (registers : ℕ) (rights : List Rhs) (right : Rhs) → AreSound registers rights
    → IsRightSide registers (length rights) right → AreSound registers (insert_key eq rights right)
sound_insert eq registers rights right sound reads = by (list_any (eq right) rights) refl
  where
    by : (b : Bool) → list_any (eq right) rights ≡ b → AreSound registers (insert_key eq rights right)
    by true is = subst (AreSound registers) (sym (ap (λ c. if c then rights else rights ++ right ∷ []) is)) sound
    by false is = subst (AreSound registers) (sym (ap (λ c. if c then rights else rights ++ right ∷ []) is)) (sound_push registers rights right sound reads)

module _ (registers : ℕ) (old new : Wires) (grows : Extends old new) (sound : IsSound registers new) where
  pub rests_stay : (rests : List DrivenPlace) → DeclaresRests registers old rests → DeclaresRests registers new rests
  rests_stay rests declares = record { sound = sound; each = λ k d within. still_has registers old new _ grows (declares.each k d within) }

  pub writes_stay : (writes : List DrivenWrite) → DeclaresWrites registers old writes → DeclaresWrites registers new writes
  writes_stay writes declares = record {
    sound = sound;
    guards = λ k d within. still_has registers old new _ grows (declares.guards k d within);
    values = λ k d within. still_has registers old new _ grows (declares.values k d within);
  }

  pub row_stays : (row : List Ref) → DeclaresRow registers old row → DeclaresRow registers new row
  row_stays row declares = record { sound = sound; each = λ k d within. still_has registers old new _ grows (declares.each k d within) }

module _ (registers : ℕ) (wires : Wires) (sound : IsSound registers wires) where
  -- nothing needs to be declared
  pub no_writes : (writes : List DrivenWrite) → writes ≡ [] → DeclaresWrites registers wires writes
  no_writes writes none = record {
    sound = sound;
    guards = λ k d within. absurd (omega (arith, ap length none));
    values = λ k d within. absurd (omega (arith, ap length none));
  }

  pub no_rests : (rests : List DrivenPlace) → rests ≡ [] → DeclaresRests registers wires rests
  no_rests rests none = record { sound = sound; each = λ k d within. absurd (omega (arith, ap length none)) }

-- the table that is empty
pub sound_empty : (registers : ℕ) (wires : Wires) → rights wires ≡ [] → IsSound registers wires
sound_empty registers wires none =
    record { each = λ number right at. absurd (omega (arith, ap length none, slice_get_within (rights wires) number right at)) }

-- a row by its indices, item by item
pub all_declared : (registers wires : ℕ) (row : List Ref) → ((k : ℕ) (d : Ref) → k < length row → IsDeclared registers wires (get_or row k d))
    → AllByRecursion (IsDeclared registers wires) row
all_declared registers wires [] each = tt
all_declared registers wires (net ∷ row) each =
    (each 0 net (omega arith), all_declared registers wires row (λ k d within. each (suc k) d (omega arith)))
