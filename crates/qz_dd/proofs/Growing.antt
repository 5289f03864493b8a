-- A list of diagrams with one more node.
use Rattle.std.proofs.Common.{ℕ, zero, suc, ◌+◌, ◌-◌, ◌<◌, ◌≤◌, ◌≡◌, Bool, true, false, cond, List, [], ◌∷◌, ◌++◌, length, get_or, slice_get, Some, None, Option, MatchOption, refl, sym, ap, ◌∙◌, subst, arith, inl, inr, ◌⊎◌, if◌then◌else◌, ◌||◌, nat_eq, ltb}
use Rattle.std.specs.List.{list_any}
use Rattle.std.proofs.lemmas.List.{length_push}
use Rattle.std.proofs.lemmas.Bool.{cases_lt, le-ltb}
use Rattle.std.proofs.lemmas.Option.{slice_get_within}
use Rattle.indexmap.specs.IndexSet.{insert_key}
use Rattle.qz_dd.specs.declared.node.Node.{Node}
use Rattle.qz_dd.specs.Nodes.{NodeFacts, ConstantFacts, value, node_at, level, IsNode, AreDiagrams}
use Rattle.qz_dd.proofs.Meaning.{node_facts, level_constant, is_constant, level_more, value_more, slice_get_more, value-false, value-true}

pub number_facts : (vars : ℕ) (nodes : List Node) → AreDiagrams vars nodes → (d : ℕ) → d < length nodes + 2 → (o : Option Node) → o ≡ node_at nodes d →
    MatchOption o (ConstantFacts vars nodes d) (λ node. NodeFacts vars nodes d node)
number_facts vars nodes all d below None e = record { small = is_constant nodes d (sym e) below; level_is = level_constant vars nodes d (sym e) }
number_facts vars nodes all d below (Some n) e = node_facts vars nodes all d n (sym e)

pub small_value : (nodes : List Node) (d : ℕ) → d < 2 → (bits : List Bool) → nat_eq d 1 ≡ value nodes d bits
small_value nodes zero h bits = sym (value-false nodes bits)
small_value nodes (suc zero) h bits = sym (value-true nodes bits)
small_value nodes (suc (suc d)) h bits = absurd (omega arith)

at_end : (nodes : List Node) (n m : Node) → slice_get (nodes ++ n ∷ []) (length nodes) ≡ Some m → n ≡ m
at_end [] n m e = cc
at_end (x ∷ xs) n m e = at_end xs n m e

-- what a number's node needs of a list
pub record Fits (vars : ℕ) (nodes : List Node) (n : Node) : Type 0 where
  pub variable : n.var < vars
  pub low_below : n.low.0 < length nodes + 2
  pub high_below : n.high.0 < length nodes + 2
  pub low_later : n.var < level vars nodes n.low.0
  pub high_later : n.var < level vars nodes n.high.0
  pub reduced : n.low.0 ≡ n.high.0 → ⊥

not_among : (eq : Node → Node → Bool) → ((x : Node) → eq x x ≡ true) → (nodes : List Node) (n : Node) (i : ℕ) → list_any (eq n) nodes ≡ false → slice_get nodes i ≡ Some n → ⊥
not_among eq reflexive [] n i none e = cc
not_among eq reflexive (x ∷ xs) n zero none e =
    let same : x ≡ n = cc in let t : eq n x ≡ true = ap (eq n) same ∙ reflexive n in cc
not_among eq reflexive (x ∷ xs) n (suc i) none e = not_among eq reflexive xs n i (rest (eq n x) (list_any (eq n) xs) none) e
  where
    rest : (a b : Bool) → (a || b) ≡ false → b ≡ false
    rest true b h = cc
    rest false b h = h

module _ (vars : ℕ) (nodes : List Node) (n : Node) (all : AreDiagrams vars nodes) (fits : Fits vars nodes n) where
  node_stays : (i : ℕ) (m : Node) → i ≤ length nodes → m.var < vars → m.low.0 < i + 2 → m.high.0 < i + 2 →
      m.var < level vars nodes m.low.0 → m.var < level vars nodes m.high.0 → (m.low.0 ≡ m.high.0 → ⊥) → IsNode vars (nodes ++ n ∷ []) i m
  node_stays i m inside variable low high low_later high_later reduced =
      let at_low = level_more vars nodes (n ∷ []) m.low.0 (omega arith) in
      let at_high = level_more vars nodes (n ∷ []) m.high.0 (omega arith) in
      record {
        variable = variable;
        low_before = low;
        high_before = high;
        low_later = omega (arith, at_low);
        high_later = omega (arith, at_high);
        reduced = reduced;
      }

  split : (i : ℕ) (m : Node) → slice_get (nodes ++ n ∷ []) i ≡ Some m → ((i < length nodes) × (slice_get nodes i ≡ Some m)) ⊎ ((i ≡ length nodes) × (n ≡ m))
  split i m e = by i m e (slice_get_within (nodes ++ n ∷ []) i m e) (length_push nodes n) (cases_lt i (length nodes))
    where
      by : (i : ℕ) (m : Node) → slice_get (nodes ++ n ∷ []) i ≡ Some m → i < length (nodes ++ n ∷ []) → length (nodes ++ n ∷ []) ≡ length nodes + 1 → (i < length nodes) ⊎ (length nodes ≤ i) → ((i < length nodes) × (slice_get nodes i ≡ Some m)) ⊎ ((i ≡ length nodes) × (n ≡ m))
      by i m e within size (inl less) = inl (less, sym (slice_get_more nodes (n ∷ []) i less) ∙ e)
      by i m e within size (inr more) = let here : i ≡ length nodes = omega arith in
          inr (here, at_end nodes n m (ap (λ k. slice_get (nodes ++ n ∷ []) k) (sym here) ∙ e))

  pushed : ((i : ℕ) → slice_get nodes i ≡ Some n → ⊥) → AreDiagrams vars (nodes ++ n ∷ [])
  pushed new = record {
    each = λ i m e. each i m (split i m e);
    once = λ i j m e f. once i j m (split i m e) (split j m f);
  }
    where
      each : (i : ℕ) (m : Node) → ((i < length nodes) × (slice_get nodes i ≡ Some m)) ⊎ ((i ≡ length nodes) × (n ≡ m)) → IsNode vars (nodes ++ n ∷ []) i m
      each i m (inl old) = let node = all.each i m old.1 in let inside : i < length nodes = old.0 in
          node_stays i m (omega arith) node.variable node.low_before node.high_before node.low_later node.high_later node.reduced
      each i m (inr last) =
          let here : i ≡ length nodes = last.0 in
          subst (λ (k : Node). IsNode vars (nodes ++ n ∷ []) i k) last.1
          (node_stays i n (omega arith) fits.variable (omega (arith, fits.low_below)) (omega (arith, fits.high_below)) fits.low_later fits.high_later fits.reduced)

      once : (i j : ℕ) (m : Node) → ((i < length nodes) × (slice_get nodes i ≡ Some m)) ⊎ ((i ≡ length nodes) × (n ≡ m)) → ((j < length nodes) × (slice_get nodes j ≡ Some m)) ⊎ ((j ≡ length nodes) × (n ≡ m)) → i ≡ j
      once i j m (inl x) (inl y) = all.once i j m x.1 y.1
      once i j m (inl x) (inr y) = absurd (new i (x.1 ∙ ap Some (sym y.1)))
      once i j m (inr x) (inl y) = absurd (new j (y.1 ∙ ap Some (sym x.1)))
      once i j m (inr x) (inr y) = x.0 ∙ sym y.0

-- what an insertion leaves: the list, or the list with the node at its end
module _ (eq : Node → Node → Bool) (reflexive : (x : Node) → eq x x ≡ true) (vars : ℕ) (nodes : List Node) (n : Node)
    (all : AreDiagrams vars nodes) (fits : Fits vars nodes n) where
  pub inserted : (after : List Node) → after ≡ insert_key eq nodes n → AreDiagrams vars after
  inserted after e = subst (AreDiagrams vars) (sym e) (by (list_any (eq n) nodes) refl)
    where
      by : (b : Bool) → list_any (eq n) nodes ≡ b → AreDiagrams vars (insert_key eq nodes n)
      by true is = subst (AreDiagrams vars) (sym (ap (λ c. if c then nodes else nodes ++ n ∷ []) is)) all
      by false is = subst (AreDiagrams vars) (sym (ap (λ c. if c then nodes else nodes ++ n ∷ []) is)) (pushed vars nodes n all fits (λ i. not_among eq reflexive nodes n i is))

-- older numbers stay
pub record Stay (vars : ℕ) (old new : List Node) : Type 0 where
  pub longer : length old ≤ length new
  pub values : (d : ℕ) → d < length old + 2 → (bits : List Bool) → value new d bits ≡ value old d bits
  pub levels : (d : ℕ) → d < length old + 2 → level vars new d ≡ level vars old d

pub stay : (eq : Node → Node → Bool) (vars : ℕ) (nodes : List Node) (n : Node) (after : List Node) → after ≡ insert_key eq nodes n → Stay vars nodes after
stay eq vars nodes n after e = subst (Stay vars nodes) (sym e) (by (list_any (eq n) nodes) refl)
  where
    by : (b : Bool) → list_any (eq n) nodes ≡ b → Stay vars nodes (insert_key eq nodes n)
    by true is = subst (Stay vars nodes) (sym (ap (λ c. if c then nodes else nodes ++ n ∷ []) is)) record {
      longer = omega arith;
      values = λ d h bits. refl;
      levels = λ d h. refl;
    }
    by false is = subst (Stay vars nodes) (sym (ap (λ c. if c then nodes else nodes ++ n ∷ []) is)) record {
      longer = omega (arith, length_push nodes n);
      values = λ d h bits. value_more nodes (n ∷ []) d h bits;
      levels = λ d h. level_more vars nodes (n ∷ []) d h;
    }

pub record Made (vars : ℕ) (nodes : List Node) (n : Node) (d : ℕ) : Type 0 where
  pub below : d < length nodes + 2
  pub level_is : level vars nodes d ≡ n.var
  pub value_is : (bits : List Bool) → value nodes d bits ≡ cond (get_or bits n.var false) (value nodes n.high.0 bits) (value nodes n.low.0 bits)

pub made : (vars : ℕ) (nodes : List Node) → AreDiagrams vars nodes → (n : Node) (i : ℕ) → slice_get nodes i ≡ Some n → Made vars nodes n (i + 2)
made vars nodes all n i e =
    let t : ltb (i + 2) 2 ≡ false = le-ltb (i + 2) 2 (omega arith) in
    let spot : i + 2 - 2 ≡ i = omega arith in
    let at : node_at nodes (i + 2) ≡ Some n = ap (λ b. cond b None (slice_get nodes (i + 2 - 2))) t ∙ ap (slice_get nodes) spot ∙ e in
    let facts = node_facts vars nodes all (i + 2) n at in
    record { below = facts.within; level_is = facts.level_is; value_is = facts.value_is }

pub cond_of : (b x y : Bool) → x ≡ true → y ≡ false → cond b x y ≡ b
cond_of true x y h k = h
cond_of false x y h k = k
