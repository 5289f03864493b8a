-- At a valuation there is one round with each number, and what is known doesn't fall.
use Rattle.std.proofs.Common.{◌≡◌, ℕ, zero, suc, ◌+◌, true, false, List, [], ◌∷◌, length, get_or, Option, Some, None, refl, sym, ap, subst, ◌∙◌, arith}
use Rattle.std.specs.Prelude.{slice_get, replicate, unwrap_or}
use Rattle.std.specs.Option.{option_map, option_and_then}
use Rattle.std.proofs.lemmas.List.{length-replicate}
use Rattle.std.proofs.lemmas.Option.{slice_get-map, get_or_from_slice_get, unwrap_or-slice_get}
use Rattle.qz_values.specs.declared.Ty.{Ty}
use Rattle.qz_values.specs.declared.Know.{Know}
use Rattle.qz_values.specs.declared.Know.TheVariants.{Unknown}
use Rattle.qz_values.specs.Order.{Below}
use Rattle.qz_values.proofs.Monotone.{Below-self, same_from_Below}
use Rattle.qz_nets.specs.declared.net.Net.TheVariants as net
use Rattle.qz_nets.specs.Readings.{net_in, type_in, listed, Reads}
use Rattle.qz_syntax.specs.declared.places.Later.{Later}
use Rattle.qz_syntax.specs.declared.places.Later.TheVariants as later
use Rattle.qz_meaning.specs.Settling.{settled_later}
use Rattle.qz_system.specs.declared.parts.SystemLeaf.{SystemLeaf}
use Rattle.qz_system.specs.declared.parts.SystemLeaf.TheVariants as leaf
use Rattle.qz_system.specs.declared.parts.Inst.{Inst}
use Rattle.qz_system.specs.declared.parts.SystemParts.{SystemParts}
use Rattle.qz_system.specs.declared.valuation.Valuation.{Valuation}
use Rattle.qz_system.specs.Parts.{AreParts, cell_type, instance_type, leaf_stands, leaf_at, is_net_right}
use Rattle.qz_system.specs.Valuations.{Fits}
use Rattle.qz_system.specs.Writers.{verdict_of}
use Rattle.qz_system.specs.Rounds.{leaf_known, leaves_known, settles, HaveTypes, AreSettledBy, IsRound}
use Rattle.qz_system.specs.Nexts.{IsFirstRound, IsNthRound}
use Rattle.qz_system.proofs.Finding.{the_type}
use Rattle.qz_system.proofs.NetLemmas.{net_at_all}
use Rattle.qz_system.proofs.Reading.{reading_typed}
use Rattle.qz_system.proofs.RoundLemmas.{leaves_fit, settled_typed}
use Rattle.system_laws.specs.Instances.{AgreeAt, KnowsBelow, BelowAt}
use Rattle.system_laws.specs.RoundLaws.{HasRound}
use Rattle.system_laws.proofs.Knowing.{same_later}
use Rattle.system_laws.proofs.Nets.{nets_up, solution, solution_solves}
use Rattle.system_laws.proofs.Settling.{settled_later_up, verdict_up, settles_up}

-- lists of one thing
pub copies : {A : Type 0} (k n : ℕ) (d : A) → get_or (replicate k d) n d ≡ d
copies zero n d = refl
copies (suc k) zero d = refl
copies (suc k) (suc n) d = copies k n d

-- where both have something and it is the same
same_get : {A : Type 0} (xs ys : List A) (n : ℕ) (x y d : A) → slice_get xs n ≡ Some x → slice_get ys n ≡ Some y
    → get_or xs n d ≡ get_or ys n d → slice_get xs n ≡ slice_get ys n
same_get xs ys n x y d at there same =
    at ∙ ap Some (sym (get_or_from_slice_get xs n x d at) ∙ same ∙ get_or_from_slice_get ys n y d there) ∙ sym there

pub get_same : {A : Type 0} (xs ys : List A) (n : ℕ) (d : A) → slice_get xs n ≡ slice_get ys n → get_or xs n d ≡ get_or ys n d
get_same xs ys n d same = sym (unwrap_or-slice_get xs n d) ∙ ap (λ o. unwrap_or o d) same ∙ unwrap_or-slice_get ys n d

-- an instance of which a type is told is there
pub instance_there : (parts : SystemParts) (n : ℕ) (ty : Ty) → instance_type parts n ≡ Some ty → (one : Inst) × (slice_get parts.instances n ≡ Some one)
instance_there parts n ty is = by (slice_get parts.instances n) refl is
  where
    by : (o : Option Inst) → slice_get parts.instances n ≡ o → option_and_then (λ (one : Inst). cell_type parts one.cell) o ≡ Some ty
        → (one : Inst) × (slice_get parts.instances n ≡ Some one)
    by None at has = absurd (cc)
    by (Some one) at has = (one, at)

module _ (parts : SystemParts) (are : AreParts parts) (v : Valuation) where
  module _ (before more : List Know) (up : KnowsBelow parts before more) where
    leaf_up : (one : SystemLeaf) (ty : Ty) → leaf_stands parts one ≡ Some ty → Below (leaf_known parts v before one) (leaf_known parts v more one)
    leaf_up (leaf.Input n) ty h = Below-self (leaf_known parts v before (leaf.Input n))
    leaf_up (leaf.Now n) ty h = let it = instance_there parts n ty h in up n it.0 it.1
    leaf_up (leaf.At n) ty h = Below-self (leaf_known parts v before (leaf.At n))
    leaf_up leaf.Started ty h = Below-self (leaf_known parts v before leaf.Started)

    number_up : (number : ℕ) (ty : Ty) → leaf_at parts number ≡ Some ty
        → Below (listed (leaves_known parts v before) number) (listed (leaves_known parts v more) number)
    number_up number ty h = by (slice_get parts.leaves number) refl h
      where
        there : (knows : List Know) (one : SystemLeaf) → slice_get parts.leaves number ≡ Some one
            → listed (leaves_known parts v knows) number ≡ leaf_known parts v knows one
        there knows one at =
            get_or_from_slice_get (leaves_known parts v knows) number (leaf_known parts v knows one) Unknown
            (slice_get-map (λ x. leaf_known parts v knows x) parts.leaves number ∙ ap (option_map (λ x. leaf_known parts v knows x)) at)

        by : (o : Option SystemLeaf) → slice_get parts.leaves number ≡ o → option_and_then (λ one. leaf_stands parts one) o ≡ Some ty
            → Below (listed (leaves_known parts v before) number) (listed (leaves_known parts v more) number)
        by None at is = absurd (cc)
        by (Some one) at is = rw (there before one at, there more one at) (leaf_up one ty is)

    leaves_up : (n number : ℕ) (ty : Ty) → net_in parts.table n ≡ Some (net.Leaf number ty)
        → Below (listed (leaves_known parts v before) number) (listed (leaves_known parts v more) number)
    leaves_up n number ty at =
        number_up number ty (the_type ty (leaf_at parts number)
        (net_at_all (is_net_right parts) parts.table.nets.entries are.is_wired.net_leaves n (net.Leaf number ty) at))

    -- a round rises with what was known before it
    pub round_up : (after others : List Know) (delayed later_others : List Later)
        → IsRound parts v before after delayed → IsRound parts v more others later_others → BelowAt parts after others delayed later_others
    round_up after others delayed later_others r s = record {
      now = λ n one at.
          rw (get_or_from_slice_get after n _ Unknown (r.are_settled.values n one at), get_or_from_slice_get others n _ Unknown (s.are_settled.values n one at))
          (settles_up parts v one _ _ (verdict_up parts r.know s.know nets n false parts.acts are.is_wired.acts_fit));
      later = λ n one at.
          rw (get_or_from_slice_get delayed n _ later.Unknown (r.are_settled.laters n one at), get_or_from_slice_get later_others n _ later.Unknown (s.are_settled.laters n one at))
          (settled_later_up _ _ (verdict_up parts r.know s.know nets n true parts.acts are.is_wired.acts_fit));
    }
      where
        nets : (n : ℕ) (ty : Ty) → type_in parts.table n ≡ Some ty → Below (r.know n) (s.know n)
        nets n ty is =
            nets_up parts.table.nets.entries parts.table.sound (listed (leaves_known parts v before)) (listed (leaves_known parts v more)) r.know s.know
            r.reads.nets s.reads.nets leaves_up n ty is

  -- no less is known in the second list than in the first, of which nothing is known
  first_below : (knows others : List Know) (delayed later_others : List Later) → IsFirstRound parts knows delayed
      → BelowAt parts knows others delayed later_others
  first_below knows others delayed later_others first = record {
    now = λ n one at.
        rw (ap (λ (xs : List Know). get_or xs n Unknown) first.values ∙ copies (length parts.instances) n Unknown) tt;
    later = λ n one at.
        rw (ap (λ (xs : List Later). get_or xs n later.Unknown) first.laters ∙ copies (length parts.instances) n later.Unknown) tt;
  }

  pub rounds_rise : (number : ℕ) (knows others : List Know) (delayed later_others : List Later)
      → IsNthRound parts v number knows delayed → IsNthRound parts v (suc number) others later_others → BelowAt parts knows others delayed later_others
  rounds_rise zero knows others delayed later_others first next = first_below knows others delayed later_others first
  rounds_rise (suc number) knows others delayed later_others r s =
      round_up r.knows_before s.knows_before (rounds_rise number r.knows_before s.knows_before r.delayed_before s.delayed_before r.was s.was).now
      knows others delayed later_others r.round s.round

  -- the rounds after lists that agree agree
  pub round_same : (before more after others : List Know) (delayed later_others : List Later) → KnowsBelow parts before more → KnowsBelow parts more before
      → IsRound parts v before after delayed → IsRound parts v more others later_others → AgreeAt parts after others delayed later_others
  round_same before more after others delayed later_others up down r s =
      let one_way = round_up before more up after others delayed later_others r s in
      let other_way = round_up more before down others after later_others delayed s r in
      record {
        now = λ n one at.
            same_get after others n _ _ Unknown (r.are_settled.values n one at) (s.are_settled.values n one at)
            (same_from_Below _ _ (one_way.now n one at) (other_way.now n one at));
        later = λ n one at.
            same_get delayed later_others n _ _ later.Unknown (r.are_settled.laters n one at) (s.are_settled.laters n one at)
            (same_later _ _ (one_way.later n one at) (other_way.later n one at));
      }

  -- lists that agree are no less known either way
  pub agree_up : (knows others : List Know) (delayed later_others : List Later) → AgreeAt parts knows others delayed later_others → KnowsBelow parts knows others
  agree_up knows others delayed later_others same n one at =
      subst (λ k. Below (get_or knows n Unknown) k) (get_same knows others n Unknown (same.now n one at)) (Below-self _)

  pub agree_down : (knows others : List Know) (delayed later_others : List Later) → AgreeAt parts knows others delayed later_others → KnowsBelow parts others knows
  agree_down knows others delayed later_others same n one at =
      subst (λ k. Below (get_or others n Unknown) k) (sym (get_same knows others n Unknown (same.now n one at))) (Below-self _)

  pub rounds_are_one : (number : ℕ) (knows others : List Know) (delayed later_others : List Later)
      → IsNthRound parts v number knows delayed → IsNthRound parts v number others later_others → AgreeAt parts knows others delayed later_others
  rounds_are_one zero knows others delayed later_others r s = record {
    now = λ n one at. ap (λ (xs : List Know). slice_get xs n) (r.values ∙ sym s.values);
    later = λ n one at. ap (λ (xs : List Later). slice_get xs n) (r.laters ∙ sym s.laters);
  }
  rounds_are_one (suc number) knows others delayed later_others r s =
      let before = rounds_are_one number r.knows_before s.knows_before r.delayed_before s.delayed_before r.was s.was in
      round_same r.knows_before s.knows_before knows others delayed later_others
      (agree_up r.knows_before s.knows_before r.delayed_before s.delayed_before before)
      (agree_down r.knows_before s.knows_before r.delayed_before s.delayed_before before) r.round s.round

-- what a list of numbered things gives, each by its number
numbered : {A B : Type 0} (f : ℕ → A → B) → ℕ → List A → List B
numbered f start [] = []
numbered f start (x ∷ xs) = f start x ∷ numbered f (suc start) xs

numbered_at : {A B : Type 0} (f : ℕ → A → B) (start : ℕ) (xs : List A) (n k : ℕ) (x : A) → k ≡ start + n → slice_get xs n ≡ Some x
    → slice_get (numbered f start xs) n ≡ Some (f k x)
unfolding numbered
numbered_at f start [] n k x is at = absurd (cc)
numbered_at f start (y ∷ ys) zero k x is at =
    let here : start ≡ k = omega (arith, is) in
    let same : y ≡ x = cc in
    λ i. Some (f (here i) (same i))
numbered_at f start (y ∷ ys) (suc n) k x is at = numbered_at f (suc start) ys n k x (omega (arith, is)) at

numbered_length : {A B : Type 0} (f : ℕ → A → B) (start : ℕ) (xs : List A) → length (numbered f start xs) ≡ length xs
unfolding numbered
numbered_length f start [] = refl
numbered_length f start (y ∷ ys) = ap suc (numbered_length f (suc start) ys)

module _ (parts : SystemParts) (are : AreParts parts) (v : Valuation) (fits : Fits parts v) where
  unknown_typed : HaveTypes parts (replicate (length parts.instances) Unknown)
  unknown_typed n ty is = rw (copies (length parts.instances) n Unknown) tt

  next_exists : (number : ℕ) → HasRound parts v number → HasRound parts v (suc number)
  next_exists number r =
      record {
        knows = after;
        delayed = delayed;
        is_nth = record { knows_before = r.knows; delayed_before = r.delayed; was = r.is_nth; round = record { know = know; reads = reads; are_settled = settled } };
        typed = settled_typed parts v are fits know
            (reading_typed parts.table.nets.entries parts.table.sound (listed (leaves_known parts v r.knows)) know reads.leaves reads.nets) after delayed settled;
        count = numbered_length (λ n one. settles parts v one (verdict_of know n false parts.acts)) 0 parts.instances;
        count_later = numbered_length (λ n (one : Inst). settled_later (verdict_of know n true parts.acts)) 0 parts.instances;
      }
    where
      know : ℕ → Know
      know = solution parts.table.nets.entries parts.table.sound (listed (leaves_known parts v r.knows))

      reads : Reads (record { leaf = listed (leaves_known parts v r.knows); know = know }) parts.table
      reads = record {
        leaves = leaves_fit parts v are fits r.knows r.typed;
        nets = solution_solves parts.table.nets.entries parts.table.sound (listed (leaves_known parts v r.knows));
      }

      after : List Know
      after = numbered (λ n one. settles parts v one (verdict_of know n false parts.acts)) 0 parts.instances

      delayed : List Later
      delayed = numbered (λ n (one : Inst). settled_later (verdict_of know n true parts.acts)) 0 parts.instances

      settled : AreSettledBy parts v know after delayed
      settled = record {
        values = λ n one at. numbered_at (λ n one. settles parts v one (verdict_of know n false parts.acts)) 0 parts.instances n n one (omega arith) at;
        laters = λ n one at. numbered_at (λ n (one : Inst). settled_later (verdict_of know n true parts.acts)) 0 parts.instances n n one (omega arith) at;
      }

  pub rounds_exist : (number : ℕ) → HasRound parts v number
  rounds_exist zero = record {
    knows = replicate (length parts.instances) Unknown;
    delayed = replicate (length parts.instances) later.Unknown;
    is_nth = record { values = refl; laters = refl };
    typed = unknown_typed;
    count = length-replicate (length parts.instances) Unknown;
    count_later = length-replicate (length parts.instances) later.Unknown;
  }
  rounds_exist (suc number) = next_exists number (rounds_exist number)
