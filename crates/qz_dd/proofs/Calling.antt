-- Answers to calls, and that they stay as the table grows.
use Rattle.std.proofs.Common.{ℕ, ◌+◌, ◌<◌, ◌≤◌, ◌≡◌, Bool, true, false, cond, List, get_or, sym, ap, ◌∙◌, arith, ⊎_elim, inl, inr, ◌⊎◌, ltb, leb, min}
use Rattle.std.proofs.lemmas.Bool.{cases_lt, cases_Bool, lt-ltb, ltb-true, le-leb, leb-true}
use Rattle.qz_dd.specs.declared.node.DdId.{DdId}
use Rattle.qz_dd.specs.declared.call.Call.{Call}
use Rattle.qz_dd.specs.declared.table.Table.{Table}
use Rattle.qz_dd.specs.Calls.{call_value, combined, IsUndecided}
use Rattle.qz_dd.specs.Tables.{Carries, count, value_in, level_in, Extends, IsMade}
use Rattle.qz_dd.specs.Answers.{called, Has, IsAnswer, IsTop, IsLow, IsHigh, IsCofactorCall}
use Rattle.qz_dd.proofs.Meaning.{node_facts, number_cases, is_constant, level_most, value-false, value-true}

pub plain_answer : (table : Table) (call : Call) (d : DdId) → Has table call →
    ((known : ℕ → Bool) → known 0 ≡ false → known 1 ≡ true → known d.0 ≡ call_value known call) →
    ((test : ℕ → Bool) → test 0 ≡ true → test call.a.0 ≡ true → test call.b.0 ≡ true → test call.c.0 ≡ true → test d.0 ≡ true) →
    IsAnswer table call d
plain_answer table call d has value among = record {
  below = ltb-true d.0 (count table) (among (λ k. ltb k (count table)) (lt-ltb 0 (count table) (omega arith))
      (lt-ltb call.a.0 (count table) has.a) (lt-ltb call.b.0 (count table) has.b) (lt-ltb call.c.0 (count table) has.c));
  later = λ v a b c. let most = level_most table.vars table.nodes.keys table.diagrams call.a.0 in
      leb-true v (level_in table d.0) (among (λ k. leb v (level_in table k)) (le-leb v table.vars (omega (arith, most, a)))
      (le-leb v (level_in table call.a.0) a) (le-leb v (level_in table call.b.0) b) (le-leb v (level_in table call.c.0) c));
  value = λ bits. value (λ k. value_in table k bits) (value-false table.nodes.keys bits) (value-true table.nodes.keys bits);
}

pub level_less : (table : Table) (d : ℕ) → 2 ≤ d → d < count table → level_in table d < table.vars
level_less table d above below =
    ⊎_elim (λ none. absurd (omega (arith, is_constant table.nodes.keys d none below)))
    (λ some. let facts = node_facts table.vars table.nodes.keys table.diagrams d some.0 some.1 in omega (arith, facts.level_is, facts.variable))
    (number_cases table.nodes.keys d)

pub top_less : (table : Table) (call : Call) → Has table call → IsUndecided call → (v : ℕ) →
    v ≤ level_in table call.a.0 → v ≤ level_in table call.b.0 → v ≤ level_in table call.c.0 → v < table.vars
top_less table call has undecided v a b c =
    ⊎_elim (λ a_small. ⊎_elim (λ b_small. ⊎_elim (λ c_small. absurd (undecided a_small b_small c_small))
    (λ c_large. let l = level_less table call.c.0 c_large has.c in omega (arith, l, c)) (cases_lt call.c.0 2))
    (λ b_large. let l = level_less table call.b.0 b_large has.b in omega (arith, l, b)) (cases_lt call.b.0 2))
    (λ a_large. let l = level_less table call.a.0 a_large has.a in omega (arith, l, a)) (cases_lt call.a.0 2)

pub least_of : (x y z : ℕ) → (x ≡ min (min x y) z) ⊎ ((y ≡ min (min x y) z) ⊎ (z ≡ min (min x y) z))
least_of x y z =
    ⊎_elim (λ xy. ⊎_elim (λ xz. inl (omega arith)) (λ zx. inr (inr (omega arith))) (cases_lt x z))
    (λ yx. ⊎_elim (λ yz. inr (inl (omega arith))) (λ zy. inr (inr (omega arith))) (cases_lt y z))
    (cases_lt x y)

module _ (old new : Table) (grows : Extends old new) where
  pub called_stays : (call : Call) → Has old call → (bits : List Bool) → called new call bits ≡ called old call bits
  called_stays call has bits =
      let a = grows.values call.a.0 has.a bits in
      let b = grows.values call.b.0 has.b bits in
      let c = grows.values call.c.0 has.c bits in
      λ i. combined call.task (a i) (b i) (c i)

  pub has_stays : (call : Call) → Has old call → Has new call
  has_stays call has = record { a = omega (arith, has.a, grows.longer); b = omega (arith, has.b, grows.longer); c = omega (arith, has.c, grows.longer) }

  pub answer_stays : (call : Call) (d : DdId) → Has old call → IsAnswer old call d → IsAnswer new call d
  answer_stays call d has right = record {
    below = omega (arith, right.below, grows.longer);
    later = λ v a b c.
        let ea = grows.levels call.a.0 has.a in let eb = grows.levels call.b.0 has.b in let ec = grows.levels call.c.0 has.c in let ed = grows.levels d.0 right.below in
        let l = right.later v (omega (arith, ea, a)) (omega (arith, eb, b)) (omega (arith, ec, c)) in omega (arith, ed, l);
    value = λ bits. grows.values d.0 right.below bits ∙ right.value bits ∙ sym (called_stays call has bits);
  }

  pub top_stays : (var : ℕ) (call : Call) → Has old call → IsTop old var call → IsTop new var call
  top_stays var call has top =
      let ea = grows.levels call.a.0 has.a in let eb = grows.levels call.b.0 has.b in let ec = grows.levels call.c.0 has.c in
      record {
        variable = omega (arith, top.variable, grows.vars);
        a = omega (arith, top.a, ea);
        b = omega (arith, top.b, eb);
        c = omega (arith, top.c, ec);
        reached = ⊎_elim (λ r. inl (ea ∙ r)) (λ s. ⊎_elim (λ r. inr (inl (eb ∙ r))) (λ r. inr (inr (ec ∙ r))) s) top.reached;
      }

  pub low_stays : (var : ℕ) (call : Call) (d : DdId) → Has old call → IsLow old var call d → IsLow new var call d
  low_stays var call d has low = record {
    below = omega (arith, low.below, grows.longer);
    later = let e = grows.levels d.0 low.below in omega (arith, low.later, e);
    value = λ bits at. grows.values d.0 low.below bits ∙ low.value bits at ∙ sym (called_stays call has bits);
  }

  pub cofactor_stays : (var : ℕ) (side : Bool) (call cofactor : Call) → Has old call → IsCofactorCall old var side call cofactor → IsCofactorCall new var side call cofactor
  cofactor_stays var side call cofactor has is = record {
    has = has_stays cofactor is.has;
    a = let e = grows.levels cofactor.a.0 is.has.a in omega (arith, is.a, e);
    b = let e = grows.levels cofactor.b.0 is.has.b in omega (arith, is.b, e);
    c = let e = grows.levels cofactor.c.0 is.has.c in omega (arith, is.c, e);
    value = λ bits at. called_stays cofactor is.has bits ∙ is.value bits at ∙ sym (called_stays call has bits);
    less = is.less;
  }

-- the answer to a cofactor
pub low_from : (table : Table) (var : ℕ) (call cofactor : Call) (d : DdId) → IsCofactorCall table var false call cofactor → IsAnswer table cofactor d → IsLow table var call d
low_from table var call cofactor d is right = record {
  below = right.below;
  later = let l = right.later (var + 1) (omega (arith, is.a)) (omega (arith, is.b)) (omega (arith, is.c)) in omega (arith, l);
  value = λ bits at. right.value bits ∙ is.value bits at;
}

pub high_from : (table : Table) (var : ℕ) (call cofactor : Call) (d : DdId) → IsCofactorCall table var true call cofactor → IsAnswer table cofactor d → IsHigh table var call d
high_from table var call cofactor d is right = record {
  below = right.below;
  later = let l = right.later (var + 1) (omega (arith, is.a)) (omega (arith, is.b)) (omega (arith, is.c)) in omega (arith, l);
  value = λ bits at. right.value bits ∙ is.value bits at;
}

-- a node of the answers to both cofactors is the answer
pub made_answer : (old new : Table) → Extends old new → (var : ℕ) (call : Call) (low high d : DdId) → Has old call → IsTop old var call →
    IsLow old var call low → IsHigh old var call high → IsMade new var low.0 high.0 d.0 → IsAnswer new call d
made_answer old new grows var call low high d has top is_low is_high made =
    let after = top_stays old new grows var call has top in
    record {
      below = made.below;
      later = λ v a b c. ⊎_elim (λ r. omega (arith, a, r, made.later)) (λ s. ⊎_elim (λ r. omega (arith, b, r, made.later)) (λ r. omega (arith, c, r, made.later)) s) after.reached;
      value = λ bits. ⊎_elim
          (λ t. made.value bits ∙ ap (λ x. cond x (value_in new high.0 bits) (value_in new low.0 bits)) t
          ∙ grows.values high.0 is_high.below bits ∙ is_high.value bits t ∙ sym (called_stays old new grows call has bits))
          (λ f. made.value bits ∙ ap (λ x. cond x (value_in new high.0 bits) (value_in new low.0 bits)) f
          ∙ grows.values low.0 is_low.below bits ∙ is_low.value bits f ∙ sym (called_stays old new grows call has bits))
          (cases_Bool (get_or bits var false));
    }

pub extends_on : (first second third : Table) → Extends first second → Extends second third → Extends first third
extends_on first second third a b = record {
  vars = b.vars ∙ a.vars;
  longer = omega (arith, a.longer, b.longer);
  values = λ d below bits. b.values d (omega (arith, a.longer, below)) bits ∙ a.values d below bits;
  levels = λ d below. b.levels d (omega (arith, a.longer, below)) ∙ a.levels d below;
  reads = λ reading reads. a.reads reading (b.reads reading reads);
}

-- what a number is at the table's own values it is wherever the table is read
pub carried : (table : Table) (call : Call) (d : DdId) → Has table call → IsAnswer table call d → Carries table d.0 (λ reading. call_value reading.values call)
carried table call d has right = λ reading reads.
    let a = reads.each call.a.0 has.a in
    let b = reads.each call.b.0 has.b in
    let c = reads.each call.c.0 has.c in
    reads.each d.0 right.below ∙ right.value reading.bits ∙ (λ i. combined call.task (sym a i) (sym b i) (sym c i))
