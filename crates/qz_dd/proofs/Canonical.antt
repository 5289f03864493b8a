-- Equal functions have equal numbers.
use Rattle.std.proofs.Common.{ℕ, zero, suc, ◌+◌, ◌-◌, ◌<◌, ◌≤◌, ◌≡◌, Bool, true, false, cond, List, length, get_or, set, replicate, slice_get, Some, refl, sym, ap, ◌∙◌, arith, ⊎_elim}
use Rattle.std.proofs.lemmas.List.{length-set, get_or-set_same, get_or-set_other, length-replicate}
use Rattle.std.proofs.lemmas.Bool.{cases_order}
use Rattle.qz_dd.specs.declared.node.Node.{Node}
use Rattle.qz_dd.specs.declared.table.Table.{Table}
use Rattle.qz_dd.specs.Tables.{IsCanonical}
use Rattle.qz_dd.specs.Nodes.{NodeFacts, value, level, AreDiagrams}
use Rattle.qz_dd.proofs.Meaning.{node_facts, number_cases, level_constant, is_constant, value-false, value-true}

pub constant : (nodes : List Node) (d : ℕ) → d < 2 → (x y : List Bool) → value nodes d x ≡ value nodes d y
constant nodes zero h x y = value-false nodes x ∙ sym (value-false nodes y)
constant nodes (suc zero) h x y = value-true nodes x ∙ sym (value-true nodes y)
constant nodes (suc (suc d)) h x y = absurd (omega arith)

-- a variable before a number's own changes nothing
pub ignores : (vars : ℕ) (nodes : List Node) → AreDiagrams vars nodes → (most d : ℕ) → d < most → d < length nodes + 2 →
    (v : ℕ) (b : Bool) (bits : List Bool) → v < level vars nodes d → value nodes d (set bits v b) ≡ value nodes d bits
ignores vars nodes all zero d small below v b bits before = absurd (omega arith)
ignores vars nodes all (suc most) d small below v b bits before =
    ⊎_elim
    (λ none. let c : d < 2 = is_constant nodes d none below in constant nodes d c (set bits v b) bits)
    (λ some. let n = some.0 in
    let facts = node_facts vars nodes all d n some.1 in
    let other : n.var ≡ v → ⊥ = λ e. absurd (omega (arith, facts.level_is)) in
    let low : value nodes n.low.0 (set bits v b) ≡ value nodes n.low.0 bits =
    ignores vars nodes all most n.low.0 (omega (arith, facts.low_less)) (omega (arith, facts.low_less)) v b bits (omega (arith, facts.low_later, facts.level_is)) in
    let high : value nodes n.high.0 (set bits v b) ≡ value nodes n.high.0 bits =
    ignores vars nodes all most n.high.0 (omega (arith, facts.high_less)) (omega (arith, facts.high_less)) v b bits (omega (arith, facts.high_later, facts.level_is)) in
    let bit : get_or (set bits v b) n.var false ≡ get_or bits n.var false = get_or-set_other bits v n.var b false other in
    facts.value_is (set bits v b) ∙ (λ i. cond (bit i) (high i) (low i)) ∙ sym (facts.value_is bits))
    (number_cases nodes d)

-- a node's two cofactors are the node at bits that are changed at its variable
pub low_is : (vars : ℕ) (nodes : List Node) → AreDiagrams vars nodes → (d : ℕ) (n : Node) → NodeFacts vars nodes d n →
    (bits : List Bool) → length bits ≡ vars → value nodes n.low.0 bits ≡ value nodes d (set bits n.var false)
low_is vars nodes all d n facts bits size =
    let bit : get_or (set bits n.var false) n.var false ≡ false = get_or-set_same bits n.var false false (omega (arith, facts.variable, size)) in
    let same = ignores vars nodes all d n.low.0 facts.low_less (omega (arith, facts.low_less, facts.within)) n.var false bits facts.low_later in
    let x = set bits n.var false in
    sym (facts.value_is x ∙ ap (λ b. cond b (value nodes n.high.0 x) (value nodes n.low.0 x)) bit ∙ same)

pub high_is : (vars : ℕ) (nodes : List Node) → AreDiagrams vars nodes → (d : ℕ) (n : Node) → NodeFacts vars nodes d n →
    (bits : List Bool) → length bits ≡ vars → value nodes n.high.0 bits ≡ value nodes d (set bits n.var true)
high_is vars nodes all d n facts bits size =
    let bit : get_or (set bits n.var true) n.var false ≡ true = get_or-set_same bits n.var true false (omega (arith, facts.variable, size)) in
    let same = ignores vars nodes all d n.high.0 facts.high_less (omega (arith, facts.high_less, facts.within)) n.var true bits facts.high_later in
    let x = set bits n.var true in
    sym (facts.value_is x ∙ ap (λ b. cond b (value nodes n.high.0 x) (value nodes n.low.0 x)) bit ∙ same)

-- equal at all bits
pub record AreSame (vars : ℕ) (nodes : List Node) (a b : ℕ) : Type 0 where
  pub at : (bits : List Bool) → length bits ≡ vars → value nodes a bits ≡ value nodes b bits

back : (vars : ℕ) (nodes : List Node) (a b : ℕ) → AreSame vars nodes a b → AreSame vars nodes b a
back vars nodes a b same = record { at = λ bits size. sym (same.at bits size) }

-- numbers with a smaller sum that are the same are equal
pub record Smaller (vars : ℕ) (nodes : List Node) (most : ℕ) : Type 0 where
  pub are_equal : (x y : ℕ) → x + y < most → x < length nodes + 2 → y < length nodes + 2 → AreSame vars nodes x y → x ≡ y

not_earlier : (vars : ℕ) (nodes : List Node) → AreDiagrams vars nodes → (a b most : ℕ) → Smaller vars nodes most → a + b ≤ most →
    b < length nodes + 2 → level vars nodes a < level vars nodes b → (n : Node) → NodeFacts vars nodes a n → AreSame vars nodes a b → ⊥
not_earlier vars nodes all a b most smaller small below earlier n facts same =
    let v_before : n.var < level vars nodes b = omega (arith, facts.level_is, earlier) in
    let low : n.low.0 ≡ b = smaller.are_equal n.low.0 b (omega (arith, facts.low_less)) (omega (arith, facts.low_less, facts.within)) below record {
      at = λ bits size. low_is vars nodes all a n facts bits size ∙ same.at (set bits n.var false) (length-set bits n.var false ∙ size)
          ∙ ignores vars nodes all (suc b) b (omega arith) below n.var false bits v_before;
    } in
    let high : n.high.0 ≡ b = smaller.are_equal n.high.0 b (omega (arith, facts.high_less)) (omega (arith, facts.high_less, facts.within)) below record {
      at = λ bits size. high_is vars nodes all a n facts bits size ∙ same.at (set bits n.var true) (length-set bits n.var true ∙ size)
          ∙ ignores vars nodes all (suc b) b (omega arith) below n.var true bits v_before;
    } in
    facts.reduced (low ∙ sym high)

same_nodes : (vars : ℕ) (nodes : List Node) → AreDiagrams vars nodes → (a b most : ℕ) → Smaller vars nodes most → a + b ≤ most →
    (n m : Node) → NodeFacts vars nodes a n → NodeFacts vars nodes b m → n.var ≡ m.var → AreSame vars nodes a b → a ≡ b
same_nodes vars nodes all a b most smaller small n m at_a at_b var same =
    let low : n.low.0 ≡ m.low.0 = smaller.are_equal n.low.0 m.low.0 (omega (arith, at_a.low_less, at_b.low_less)) (omega (arith, at_a.low_less, at_a.within)) (omega (arith, at_b.low_less, at_b.within)) record {
      at = λ bits size. low_is vars nodes all a n at_a bits size ∙ same.at (set bits n.var false) (length-set bits n.var false ∙ size)
          ∙ ap (λ v. value nodes b (set bits v false)) var ∙ sym (low_is vars nodes all b m at_b bits size);
    } in
    let high : n.high.0 ≡ m.high.0 = smaller.are_equal n.high.0 m.high.0 (omega (arith, at_a.high_less, at_b.high_less)) (omega (arith, at_a.high_less, at_a.within)) (omega (arith, at_b.high_less, at_b.within)) record {
      at = λ bits size. high_is vars nodes all a n at_a bits size ∙ same.at (set bits n.var true) (length-set bits n.var true ∙ size)
          ∙ ap (λ v. value nodes b (set bits v true)) var ∙ sym (high_is vars nodes all b m at_b bits size);
    } in
    let node : n ≡ m = λ i. record { var = var i; low = record { 0 = low i }; high = record { 0 = high i } } in
    let there : slice_get nodes (b - 2) ≡ Some n = at_b.place ∙ ap Some (sym node) in
    let spot : a - 2 ≡ b - 2 = all.once (a - 2) (b - 2) n at_a.place there in
    omega (arith, spot, at_a.no_constant, at_b.no_constant)

same_constants : (vars : ℕ) (nodes : List Node) (a b : ℕ) → a < 2 → b < 2 → AreSame vars nodes a b → a ≡ b
same_constants vars nodes zero zero x y same = refl
same_constants vars nodes (suc zero) (suc zero) x y same = refl
same_constants vars nodes zero (suc zero) x y same =
    let bits = replicate vars false in
    let e = same.at bits (length-replicate vars false) in
    let wrong : false ≡ true = sym (value-false nodes bits) ∙ e ∙ value-true nodes bits in absurd cc
same_constants vars nodes (suc zero) zero x y same =
    let bits = replicate vars false in
    let e = same.at bits (length-replicate vars false) in
    let wrong : true ≡ false = sym (value-true nodes bits) ∙ e ∙ value-false nodes bits in absurd cc
same_constants vars nodes a b x y same = absurd (omega arith)

pub same_numbers : (vars : ℕ) (nodes : List Node) → AreDiagrams vars nodes → (most a b : ℕ) → a + b < most →
    a < length nodes + 2 → b < length nodes + 2 → AreSame vars nodes a b → a ≡ b
same_numbers vars nodes all zero a b small a_below b_below same = absurd (omega arith)
same_numbers vars nodes all (suc most) a b small a_below b_below same =
    let smaller : Smaller vars nodes most = record { are_equal = same_numbers vars nodes all most } in
    let sum : a + b ≤ most = omega arith in
    let mirror : b + a ≤ most = omega arith in
    ⊎_elim
    (λ a_none. ⊎_elim
    (λ b_none. same_constants vars nodes a b (is_constant nodes a a_none a_below) (is_constant nodes b b_none b_below) same)
    (λ b_some. let facts = node_facts vars nodes all b b_some.0 b_some.1 in
    let top = level_constant vars nodes a a_none in
    absurd (not_earlier vars nodes all b a most smaller mirror a_below (omega (arith, top, facts.level_is, facts.variable)) b_some.0 facts (back vars nodes a b same)))
    (number_cases nodes b))
    (λ a_some. let facts = node_facts vars nodes all a a_some.0 a_some.1 in ⊎_elim
    (λ b_none. let top = level_constant vars nodes b b_none in
    absurd (not_earlier vars nodes all a b most smaller sum b_below (omega (arith, top, facts.level_is, facts.variable)) a_some.0 facts same))
    (λ b_some. let other = node_facts vars nodes all b b_some.0 b_some.1 in
    ⊎_elim
    (λ (e : (a_some.0).var ≡ (b_some.0).var). same_nodes vars nodes all a b most smaller sum a_some.0 b_some.0 facts other e same)
    (λ apart. ⊎_elim
    (λ less. absurd (not_earlier vars nodes all a b most smaller sum b_below (omega (arith, less, facts.level_is, other.level_is)) a_some.0 facts same))
    (λ more. absurd (not_earlier vars nodes all b a most smaller mirror a_below (omega (arith, more, facts.level_is, other.level_is)) b_some.0 other (back vars nodes a b same)))
    apart)
    (cases_order (a_some.0).var (b_some.0).var))
    (number_cases nodes b))
    (number_cases nodes a)

pub canonical : (table : Table) → IsCanonical table
canonical table = record {
  equal = λ a b a_below b_below same. same_numbers table.vars table.nodes.keys table.diagrams (a + b + 1) a b (omega arith) a_below b_below record { at = same };
}
