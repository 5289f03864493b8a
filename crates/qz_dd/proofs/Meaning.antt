-- What the values of numbers are, and that they stay as a list of nodes grows.
use Rattle.std.proofs.Common.{ℕ, ◌+◌, ◌-◌, ◌<◌, ◌≤◌, ◌≡◌, Bool, true, false, cond, List, [], ◌∷◌, ◌++◌, length, get_or, slice_get, Some, None, Option, refl, sym, ap, ◌∙◌, arith, ltb, suc, zero}
use Rattle.std.proofs.lemmas.List.{get_or_append_left, get_or_push, length_push}
use Rattle.std.proofs.lemmas.Bool.{cases_lt, lt-ltb, le-ltb}
use Rattle.std.proofs.lemmas.Option.{slice_get_within}
use Rattle.std.proofs.Common.{⊎_elim, inl, inr, ◌⊎◌}
use Rattle.std.specs.Option.{option_map_or}
use Rattle.qz_dd.specs.declared.node.Node.{Node}
use Rattle.qz_dd.specs.Nodes.{NodeFacts, node_value, values, value, node_at, level, AreDiagrams}

pub values-append : (bits known : List Bool) (ms ns : List Node) → values bits known (ms ++ ns) ≡ values bits (values bits known ms) ns
values-append bits known [] ns = refl
values-append bits known (m ∷ ms) ns = values-append bits (known ++ node_value bits known m ∷ []) ms ns

pub length-values : (bits known : List Bool) (ns : List Node) → length (values bits known ns) ≡ length known + length ns
length-values bits known [] = omega arith
length-values bits known (n ∷ ns) =
    let h : length (values bits (known ++ node_value bits known n ∷ []) ns) ≡ length (known ++ node_value bits known n ∷ []) + length ns =
    length-values bits (known ++ node_value bits known n ∷ []) ns in
    omega (arith, length_push known (node_value bits known n))

-- a known value stays
pub values_keep : (bits known : List Bool) (ns : List Node) (k : ℕ) → k < length known → get_or (values bits known ns) k false ≡ get_or known k false
values_keep bits known [] k h = refl
values_keep bits known (n ∷ ns) k h =
    let v = node_value bits known n in
    let e : length (known ++ v ∷ []) ≡ length known + 1 = length_push known v in
    values_keep bits (known ++ v ∷ []) ns k (omega arith) ∙ get_or_append_left known (v ∷ []) false k h

pub values_at : (bits known : List Bool) (ns : List Node) (i : ℕ) (n : Node) → slice_get ns i ≡ Some n →
    n.low.0 < i + length known → n.high.0 < i + length known →
    get_or (values bits known ns) (i + length known) false ≡ node_value bits (values bits known ns) n
values_at bits known [] i n e low high = cc
values_at bits known (m ∷ ms) zero n e low high =
    let v = node_value bits known m in
    let same : m ≡ n = cc in
    let all = values bits (known ++ v ∷ []) ms in
    let size : length (known ++ v ∷ []) ≡ length known + 1 = length_push known v in
    let here : get_or all (length known) false ≡ v = values_keep bits (known ++ v ∷ []) ms (length known) (omega arith) ∙ get_or_push known v false (length known) refl in
    let at_low : get_or all n.low.0 false ≡ get_or known n.low.0 false =
    values_keep bits (known ++ v ∷ []) ms n.low.0 (omega arith) ∙ get_or_append_left known (v ∷ []) false n.low.0 (omega arith) in
    let at_high : get_or all n.high.0 false ≡ get_or known n.high.0 false =
    values_keep bits (known ++ v ∷ []) ms n.high.0 (omega arith) ∙ get_or_append_left known (v ∷ []) false n.high.0 (omega arith) in
    let spot : 0 + length known ≡ length known = omega arith in
    let v_is : v ≡ node_value bits known n = ap (node_value bits known) same in
    rw (spot, at_low, at_high) (here ∙ v_is)
values_at bits known (m ∷ ms) (suc i) n e low high =
    let v = node_value bits known m in
    let size : length (known ++ v ∷ []) ≡ length known + 1 = length_push known v in
    let spot : suc i + length known ≡ i + length (known ++ v ∷ []) = omega arith in
    let step = values_at bits (known ++ v ∷ []) ms i n e (omega arith) (omega arith) in
    rw spot step

pub value-false : (nodes : List Node) (bits : List Bool) → value nodes 0 bits ≡ false
unfolding value
value-false nodes bits = values_keep bits (false ∷ true ∷ []) nodes 0 (omega arith)

pub value-true : (nodes : List Node) (bits : List Bool) → value nodes 1 bits ≡ true
unfolding value
value-true nodes bits = values_keep bits (false ∷ true ∷ []) nodes 1 (omega arith)

-- where a number has a node it is no constant
pub node_place : (nodes : List Node) (d : ℕ) (n : Node) → node_at nodes d ≡ Some n → (2 ≤ d) × (slice_get nodes (d - 2) ≡ Some n)
node_place nodes d n e =
    ⊎_elim (λ less. absurd (let t : ltb d 2 ≡ true = lt-ltb d 2 less in let none : cond (ltb d 2) None (slice_get nodes (d - 2)) ≡ None = ap (λ b. cond b None (slice_get nodes (d - 2))) t in cc))
    (λ more. (more, let t : ltb d 2 ≡ false = le-ltb d 2 more in let some : cond (ltb d 2) None (slice_get nodes (d - 2)) ≡ slice_get nodes (d - 2) = ap (λ b. cond b None (slice_get nodes (d - 2))) t in cc))
    (cases_lt d 2)

pub value-node : (nodes : List Node) (d : ℕ) (n : Node) → node_at nodes d ≡ Some n → n.low.0 < d → n.high.0 < d → (bits : List Bool) →
    value nodes d bits ≡ cond (get_or bits n.var false) (value nodes n.high.0 bits) (value nodes n.low.0 bits)
unfolding value
value-node nodes d n e low high bits =
    let place = node_place nodes d n e in
    let spot : (d - 2) + length (false ∷ true ∷ []) ≡ d = omega (arith, place.0) in
    let at = values_at bits (false ∷ true ∷ []) nodes (d - 2) n place.1 (omega (arith, spot)) (omega (arith, spot)) in
    ap (λ (k : ℕ). get_or (values bits (false ∷ true ∷ []) nodes) k false) (sym spot) ∙ at

pub value_more : (nodes more : List Node) (d : ℕ) → d < length nodes + 2 → (bits : List Bool) → value (nodes ++ more) d bits ≡ value nodes d bits
unfolding value
value_more nodes more d h bits =
    let known = values bits (false ∷ true ∷ []) nodes in
    let size : length known ≡ length (false ∷ true ∷ []) + length nodes = length-values bits (false ∷ true ∷ []) nodes in
    ap (λ vs. get_or vs d false) (values-append bits (false ∷ true ∷ []) nodes more) ∙ values_keep bits known more d (omega arith)

pub slice_get_more : (nodes more : List Node) (i : ℕ) → i < length nodes → slice_get (nodes ++ more) i ≡ slice_get nodes i
slice_get_more [] more i h = absurd (omega arith)
slice_get_more (n ∷ ns) more zero h = refl
slice_get_more (n ∷ ns) more (suc i) h = slice_get_more ns more i (omega arith)

pub node_at-more : (nodes more : List Node) (d : ℕ) → d < length nodes + 2 → node_at (nodes ++ more) d ≡ node_at nodes d
node_at-more nodes more d h =
    ⊎_elim (λ less. let t : ltb d 2 ≡ true = lt-ltb d 2 less in rw t refl)
    (λ above. let e : slice_get (nodes ++ more) (d - 2) ≡ slice_get nodes (d - 2) = slice_get_more nodes more (d - 2) (omega arith) in ap (cond (ltb d 2) None) e)
    (cases_lt d 2)

pub level_more : (vars : ℕ) (nodes more : List Node) (d : ℕ) → d < length nodes + 2 → level vars (nodes ++ more) d ≡ level vars nodes d
level_more vars nodes more d h = ap (λ o. option_map_or (λ (n : Node). n.var) o vars) (node_at-more nodes more d h)

pub node_facts : (vars : ℕ) (nodes : List Node) → AreDiagrams vars nodes → (d : ℕ) (n : Node) → node_at nodes d ≡ Some n → NodeFacts vars nodes d n
node_facts vars nodes all d n e =
    let place = node_place nodes d n e in
    let node = all.each (d - 2) n place.1 in
    let inside : d - 2 < length nodes = slice_get_within nodes (d - 2) n place.1 in
    let low : n.low.0 < d = omega (arith, node.low_before, place.0) in
    let high : n.high.0 < d = omega (arith, node.high_before, place.0) in
    record {
      no_constant = place.0;
      within = omega (arith, inside, place.0);
      place = place.1;
      variable = node.variable;
      low_less = low;
      high_less = high;
      low_later = node.low_later;
      high_later = node.high_later;
      reduced = node.reduced;
      level_is = ap (λ o. option_map_or (λ (m : Node). m.var) o vars) e;
      value_is = value-node nodes d n e low high;
    }

pub level_constant : (vars : ℕ) (nodes : List Node) (d : ℕ) → node_at nodes d ≡ None → level vars nodes d ≡ vars
level_constant vars nodes d e = ap (λ o. option_map_or (λ (m : Node). m.var) o vars) e

pub slice_get-some : (nodes : List Node) (i : ℕ) → i < length nodes → (n : Node) × (slice_get nodes i ≡ Some n)
slice_get-some [] i h = absurd (omega arith)
slice_get-some (n ∷ ns) zero h = (n, refl)
slice_get-some (n ∷ ns) (suc i) h = slice_get-some ns i (omega arith)

pub is_constant : (nodes : List Node) (d : ℕ) → node_at nodes d ≡ None → d < length nodes + 2 → d < 2
is_constant nodes d e h =
    ⊎_elim (λ less. less)
    (λ above. absurd (let t : ltb d 2 ≡ false = le-ltb d 2 above in
    let some : cond (ltb d 2) None (slice_get nodes (d - 2)) ≡ slice_get nodes (d - 2) = ap (λ b. cond b None (slice_get nodes (d - 2))) t in
    let inside : d - 2 < length nodes = omega arith in
    let there = slice_get-some nodes (d - 2) inside in
    let is : slice_get nodes (d - 2) ≡ Some there.0 = there.1 in
    cc))
    (cases_lt d 2)

option_cases : (o : Option Node) → (o ≡ None) ⊎ ((n : Node) × (o ≡ Some n))
option_cases None = inl refl
option_cases (Some n) = inr (n, refl)

pub number_cases : (nodes : List Node) (d : ℕ) → (node_at nodes d ≡ None) ⊎ ((n : Node) × (node_at nodes d ≡ Some n))
number_cases nodes d = option_cases (node_at nodes d)

-- a number is a constant or has a node
pub level_most : (vars : ℕ) (nodes : List Node) → AreDiagrams vars nodes → (d : ℕ) → level vars nodes d ≤ vars
level_most vars nodes all d =
    ⊎_elim (λ none. let e = level_constant vars nodes d none in omega (arith, e))
    (λ some. let facts = node_facts vars nodes all d some.0 some.1 in omega (arith, facts.level_is, facts.variable))
    (number_cases nodes d)
