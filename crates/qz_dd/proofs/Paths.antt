-- The walk to the least bits.
use Rattle.std.proofs.Common.{ℕ, zero, suc, ◌+◌, ◌<◌, ◌≡◌, Bool, true, false, cond, List, [], ◌∷◌, length, get_or, set, replicate, refl, sym, ap, ◌∙◌, subst, arith, ⊎_elim}
use Rattle.std.proofs.lemmas.List.{length-set, get_or-set_same, get_or-set_other, length-replicate}
use Rattle.std.proofs.lemmas.Bool.{cases_lt, cases_Bool, cases_order}
use Rattle.qz_dd.specs.declared.node.Node.{Node}
use Rattle.qz_dd.specs.Nodes.{value, level, NodeFacts, ConstantFacts}
use Rattle.qz_dd.specs.Least.{IsNoLater, IsLeast, SameBits, OnPath}
use Rattle.qz_dd.proofs.Meaning.{value-false, value-true}

all_false : (n i : ℕ) → get_or (replicate n false) i false ≡ false
all_false zero i = refl
all_false (suc n) zero = refl
all_false (suc n) (suc i) = all_false n i

pub path_start : (vars : ℕ) (nodes : List Node) (d : ℕ) → d < length nodes + 2 → (d ≡ 0 → ⊥) → (bits : List Bool) → bits ≡ replicate vars false → OnPath vars nodes d d bits
path_start vars nodes d below not_false bits e = subst (OnPath vars nodes d d) (sym e) record {
  size = length-replicate vars false;
  below = below;
  not_false = not_false;
  rest = λ i after. all_false vars i;
  follows = λ other same. refl;
  least = λ other is i before same on. absurd (let off = all_false vars i in cc);
}

module _ (vars : ℕ) (nodes : List Node) (d at : ℕ) (n : Node) (facts : NodeFacts vars nodes at n) (bits : List Bool) (path : OnPath vars nodes d at bits) where
  before_low : n.var < level vars nodes n.low.0
  before_low = facts.low_later

  pub path_low : (n.low.0 ≡ 0 → ⊥) → OnPath vars nodes d n.low.0 bits
  path_low not_false =
      let here : level vars nodes at ≡ n.var = facts.level_is in
      let later : n.var < level vars nodes n.low.0 = facts.low_later in
      record {
        size = path.size;
        below = omega (arith, facts.low_less, facts.within);
        not_false = not_false;
        rest = λ i after. path.rest i (omega (arith, here, later, after));
        follows = λ other same.
            let off : get_or other n.var false ≡ false = sym (same n.var later) ∙ path.rest n.var (omega (arith, here)) in
            path.follows other (λ j less. same j (omega (arith, less, here, later))) ∙ facts.value_is other
            ∙ ap (λ b. cond b (value nodes n.high.0 other) (value nodes n.low.0 other)) off;
        least = λ other is i before same on. ⊎_elim
            (λ less. path.least other is i less same on)
            (λ more. absurd (let off = path.rest i more in cc))
            (cases_lt i (level vars nodes at));
      }

  pub path_high : n.low.0 ≡ 0 → OnPath vars nodes d n.high.0 (set bits n.var true)
  path_high low_false =
      let here : level vars nodes at ≡ n.var = facts.level_is in
      let later : n.var < level vars nodes n.high.0 = facts.high_later in
      let after = set bits n.var true in
      let at_var : get_or after n.var false ≡ true = get_or-set_same bits n.var true false (omega (arith, facts.variable, path.size)) in
      let elsewhere = λ (j : ℕ) (apart : j ≡ n.var → ⊥). get_or-set_other bits n.var j true false apart in
      record {
        size = length-set bits n.var true ∙ path.size;
        below = omega (arith, facts.high_less, facts.within);
        not_false = λ e. facts.reduced (low_false ∙ sym e);
        rest = λ i past. elsewhere i (λ e. absurd (omega (arith, e, later, past))) ∙ path.rest i (omega (arith, here, later, past));
        follows = λ other same.
            let on : get_or other n.var false ≡ true = sym (same n.var later) ∙ at_var in
            path.follows other (λ j less. sym (elsewhere j (λ e. absurd (omega (arith, e, less, here)))) ∙ same j (omega (arith, less, here, later))) ∙ facts.value_is other
            ∙ ap (λ b. cond b (value nodes n.high.0 other) (value nodes n.low.0 other)) on;
        least = λ other is i before same on. ⊎_elim
            (λ (e : i ≡ n.var). ⊎_elim
            (λ t. ap (λ k. get_or other k false) e ∙ t)
            (λ f. absurd (
            let follows : value nodes d other ≡ value nodes at other =
            path.follows other (λ j less. sym (elsewhere j (λ q. absurd (omega (arith, q, less, here)))) ∙ same j (omega (arith, e, less, here))) in
            let low : value nodes at other ≡ value nodes n.low.0 other =
            facts.value_is other ∙ ap (λ b. cond b (value nodes n.high.0 other) (value nodes n.low.0 other)) f in
            let zero_is : value nodes n.low.0 other ≡ false = ap (λ k. value nodes k other) low_false ∙ value-false nodes other in
            let wrong : true ≡ false = sym is ∙ follows ∙ low ∙ zero_is in cc))
            (cases_Bool (get_or other n.var false)))
            (λ apart. ⊎_elim
            (λ (less : i < n.var). path.least other is i (omega (arith, here, less))
            (λ j before_i. sym (elsewhere j (λ q. absurd (omega (arith, q, before_i, less)))) ∙ same j before_i)
            (sym (elsewhere i (λ q. absurd (omega (arith, q, less)))) ∙ on))
            (λ (more : n.var < i). absurd (
            let off : get_or bits i false ≡ false = path.rest i (omega (arith, here, more)) in
            let was : get_or after i false ≡ get_or bits i false = elsewhere i (λ q. absurd (omega (arith, q, more))) in cc))
            apart)
            (cases_order i n.var);
      }

more : (b : Bool) (xs ys : List Bool) (i : ℕ) → SameBits i xs ys → SameBits (suc i) (b ∷ xs) (b ∷ ys)
more b xs ys i same zero less = refl
more b xs ys i same (suc j) less = same j (omega arith)

no_later : (xs ys : List Bool) → length xs ≡ length ys → ((i : ℕ) → SameBits i xs ys → get_or xs i false ≡ true → get_or ys i false ≡ true) → IsNoLater xs ys
no_later [] ys size h = tt
no_later (x ∷ xs) [] size h = absurd (omega arith)
no_later (false ∷ xs) (true ∷ ys) size h = tt
no_later (true ∷ xs) (false ∷ ys) size h = absurd (let e : false ≡ true = h 0 (λ j less. absurd (omega arith)) refl in cc)
no_later (false ∷ xs) (false ∷ ys) size h = no_later xs ys (omega arith) (λ i same. h (suc i) (more false xs ys i same))
no_later (true ∷ xs) (true ∷ ys) size h = no_later xs ys (omega arith) (λ i same. h (suc i) (more true xs ys i same))

is_one : (d : ℕ) → d < 2 → (d ≡ 0 → ⊥) → d ≡ 1
is_one d small not_false = ⊎_elim (λ e. absurd (not_false e)) (λ s. ⊎_elim (λ (l : d < 0). absurd (omega arith)) (λ (m : 0 < d). omega arith) s) (cases_order d 0)

pub path_end : (vars : ℕ) (nodes : List Node) (d at : ℕ) (bits : List Bool) → ConstantFacts vars nodes at → OnPath vars nodes d at bits → IsLeast vars nodes d bits
path_end vars nodes d at bits facts path =
    let one : at ≡ 1 = is_one at facts.small path.not_false in
    record {
      size = path.size;
      is_true = path.follows bits (λ j less. refl) ∙ ap (λ k. value nodes k bits) one ∙ value-true nodes bits;
      least = λ other size is. no_later bits other (path.size ∙ sym size) (λ i same on. ⊎_elim
          (λ less. path.least other is i less same on)
          (λ past. absurd (let off = path.rest i past in cc))
          (cases_lt i (level vars nodes at)));
    }
