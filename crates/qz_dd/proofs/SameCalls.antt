-- Calls that the test finds equal are equal, and kept answers stay right.
use Rattle.std.proofs.Common.{◌≡◌, true, cond, ap, sym, subst, ◌∙◌, rules, ◌&&◌, Some, Result, Ok, Err, OnOk, OnErr, ⊎_elim}
use denote.Enum.Bare.{same_true}
use Rattle.std.proofs.lemmas.Bool.{and_parts, cases_Bool}
use Rattle.indexmap.specs.IndexMap.{IndexMap, get, Updates, IsUnchanged}
use Rattle.qz_dd.specs.declared.node.DdId.{DdId}
use Rattle.qz_dd.specs.declared.call.Call.{Call}
use Rattle.qz_dd.specs.declared.call.Task.{Task}
use Rattle.qz_dd.specs.declared.table.Table.{Table}
use Rattle.qz_dd.specs.contracts.call.CallPartialEq.TheImpl.{eq-value}
use Rattle.qz_dd.specs.contracts.call.TaskPartialEq.TheImpl as task
use Rattle.qz_dd.specs.contracts.call.Task.{the_type}
use Rattle.qz_dd.specs.contracts.node.DdIdPartialEq.TheImpl as number
use Rattle.qz_dd.specs.Tables.{Extends}
use Rattle.qz_dd.specs.Answers.{AreRight, Has, IsAnswer}
use Rattle.qz_dd.proofs.SameNodes.{same_number}
use Rattle.qz_dd.proofs.Calling.{has_stays, answer_stays}

same_task : (x y : Task) → (task.eq-value).it x y ≡ true → x ≡ y
same_task x y h = same_true the_type (search rules) x y h

pub same_call : (x y : Call) → (eq-value).it x y ≡ true → x ≡ y
same_call x y h =
    let first = and_parts ((task.eq-value).it x.task y.task) ((number.eq-value).it x.a y.a && ((number.eq-value).it x.b y.b && (number.eq-value).it x.c y.c)) h in
    let second = and_parts ((number.eq-value).it x.a y.a) ((number.eq-value).it x.b y.b && (number.eq-value).it x.c y.c) first.1 in
    let third = and_parts ((number.eq-value).it x.b y.b) ((number.eq-value).it x.c y.c) second.1 in
    λ i. record { task = same_task x.task y.task first.0 i; a = same_number x.a y.a second.0 i; b = same_number x.b y.b third.0 i; c = same_number x.c y.c third.1 i }

pub record Both (table : Table) (call : Call) (d : DdId) : Type 0 where
  pub has : Has table call
  pub right : IsAnswer table call d

module _ {S : Type 0} (table : Table) (old new : IndexMap Call DdId S) (call : Call) (d : DdId) (all : AreRight table old) (has : Has table call) (right : IsAnswer table call d) where
  put : Updates (eq-value).it old new call (Some d) → (q : Call) (e : DdId) → get (eq-value).it new q ≡ Some e → Both table q e
  put updates q e found = ⊎_elim
      (λ t. let is : get (eq-value).it new q ≡ Some d = updates.0 q ∙ ap (λ b. cond b (Some d) (get (eq-value).it old q)) t in
      let same : d ≡ e = cc in
      let key : call ≡ q = same_call call q t in
      record { has = subst (Has table) key has; right = let P : Call → DdId → Type 0 = IsAnswer table in subst (λ (k : DdId). P q k) same (subst (λ (k : Call). P k d) key right) })
      (λ f. let is : get (eq-value).it new q ≡ get (eq-value).it old q = updates.0 q ∙ ap (λ b. cond b (Some d) (get (eq-value).it old q)) f in
      let was : get (eq-value).it old q ≡ Some e = sym is ∙ found in
      record { has = all.has q e was; right = all.right q e was })
      (cases_Bool ((eq-value).it call q))

  pub kept : {A E : Type 0} (r : Result A E) → OnOk r (Updates (eq-value).it old new call (Some d)) → OnErr r (IsUnchanged old new) → AreRight table new
  kept (Ok x) updates same = record { has = λ q e found. (put updates q e found).has; right = λ q e found. (put updates q e found).right }
  kept (Err x) updates same = record {
    has = λ q e found. all.has q e (rw (← same) found);
    right = λ q e found. all.right q e (rw (← same) found);
  }

pub right_stays : {S : Type 0} (old new : Table) → Extends old new → (results : IndexMap Call DdId S) → AreRight old results → AreRight new results
right_stays old new grows results all = record {
  has = λ q e found. has_stays old new grows q (all.has q e found);
  right = λ q e found. answer_stays old new grows q e (all.has q e found) (all.right q e found);
}
