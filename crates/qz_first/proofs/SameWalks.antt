-- A statement of the first language does the same in every step: its values are literals.
use Rattle.std.proofs.Common.{◌≡◌, ℕ, ◌+◌, true, false, ◌++◌, List, [], ◌∷◌, map, Option, refl, sym, ap, ap₂, ◌∙◌, if◌then◌else◌}
use Rattle.std.specs.Option.{option_map}
use Rattle.std.specs.List.{AllByRecursion}
use mathlib.Core.Path.{fun_ext}
use Rattle.qz_values.specs.declared.Know.{Know}
use Rattle.qz_values.specs.declared.Know.TheVariants.{Known}
use Rattle.qz_values.specs.Values.{no}
use Rattle.qz_values.specs.Knowledge.{both, opposite, knows_yes}
use Rattle.qz_syntax.specs.declared.expressions.Expr.{Expr}
use Rattle.qz_syntax.specs.declared.expressions.Var.{Var}
use Rattle.qz_syntax.specs.declared.expressions.Var.TheVariants as var
use Rattle.qz_syntax.specs.declared.places.Mark.{Mark}
use Rattle.qz_syntax.specs.declared.places.Mark.TheVariants as mark
use Rattle.qz_syntax.specs.declared.places.Residual.{Residual}
use Rattle.qz_syntax.specs.declared.places.Residual.TheVariants.{InSeq, InBody}
use Rattle.qz_syntax.specs.declared.statements.Stmt.{Stmt}
use Rattle.qz_syntax.specs.declared.statements.Stmt.TheVariants as stmt
use Rattle.qz_meaning.specs.Residuals.{inner, member_of}
use Rattle.qz_meaning.specs.Scenes.{Passing, Context, instance_here}
use Rattle.qz_meaning.specs.Expressions.{value_here}
use Rattle.qz_meaning.specs.Behaviors.{idle}
use Rattle.qz_meaning.specs.Sequences.{rest_in_first, resting_member, later_members, sequence}
use Rattle.qz_meaning.specs.Residing.{residing, no_calls, Walk, walk}
use Rattle.qz_meaning.proofs.Walking.{behavior-Nothing, behavior-Assign, behavior-Pause, behavior-Seq, behavior-Loop}
use Rattle.qz_first.specs.Mirror.{bit_of}
use Rattle.qz_first.specs.FirstLanguage.{is_first}
use Rattle.qz_first.proofs.BitLemmas.{literal_yes}
use Rattle.qz_first.proofs.FirstInduction.{first_induction}

module _ (step other : Passing) where
  -- an assignment, by what its value is in each context
  abbrev assigned : Var → (Context → Know) → Walk
  assigned target value = record (idle (residing step)) {
    start = λ ctx g m. record {
      target = instance_here ctx target;
      delayed = false;
      guard = g;
      value = value ctx;
    } ∷ [];
  }

  -- a loop, by what its condition is in each context
  abbrev repeated : ℕ → Walk → (Context → Know) → Walk
  repeated number body condition = record {
    ends = λ ctx m. Known no;
    start = λ ctx g m. body.start ctx g m;
    ended = λ ctx r. both (body.ended ctx (inner r)) (opposite (condition ctx));
    resume = λ ctx r g.
        body.resume ctx (inner r) g
        ++ body.start ctx (both (both g (body.ended ctx (inner r))) (condition ctx)) (mark.Loop number);
    rest = λ ctx m. option_map (λ inside. InBody inside) (body.rest ctx m);
    after = λ ctx r. option_map (λ inside. InBody inside)
        (if knows_yes (both (body.ended ctx (inner r)) (condition ctx)) then body.rest ctx (mark.Loop number) else body.after ctx (inner r));
    kept = λ r. option_map (λ inside. InBody inside) (body.kept (inner r));
  }

  abbrev Same : Stmt → Type 0
  Same s = walk step s ≡ walk other s

  abbrev value_in : Passing → Expr → Context → Know
  value_in some e ctx = value_here some.now ctx e

  same_value : (e : Expr) → bit_of e ≡ true → value_in step e ≡ value_in other e
  same_value e h = fun_ext (λ ctx. literal_yes step.now ctx e h ∙ sym (literal_yes other.now ctx e h))

  same_parts : (parts : List Stmt) → AllByRecursion Same parts → map (walk step) parts ≡ map (walk other) parts
  same_parts [] h = refl
  same_parts (s ∷ parts) h = ap₂ (λ (one : Walk) (more : List Walk). one ∷ more) h.0 (same_parts parts h.1)

  -- where control rests in a sequence, no scope is of the sequence's own
  same_rest : (ctx : Context) (parts : List Walk) (number : ℕ) (m : Mark)
      → rest_in_first (residing step) ctx parts number m ≡ rest_in_first (residing other) ctx parts number m
  same_rest ctx [] number m = refl
  same_rest ctx (part ∷ parts) number m =
      ap (λ (rest : Option Residual). if knows_yes (part.ends ctx m) then rest else option_map (λ r. InSeq number r) (part.rest ctx m))
      (same_rest ctx parts (number + 1) m)

  same_sequence : (parts : List Walk) → sequence (residing step) parts ≡ sequence (residing other) parts
  same_sequence parts =
      ap₂ (λ (rest : Context → Mark → Option Residual) (after : Context → Residual → Option Residual).
      record (sequence (residing step) parts) { rest = rest; after = after })
      (fun_ext (λ ctx. fun_ext (λ m. same_rest ctx parts 0 m)))
      (fun_ext (λ ctx. fun_ext (λ r.
      let one = resting_member (idle (residing step)) parts r in
      ap (λ (rest : Option Residual). if knows_yes (one.ended ctx (inner r)) then rest else option_map (λ q. InSeq (member_of r) q) (one.after ctx (inner r)))
      (same_rest ctx (later_members parts r) (member_of r + 1) mark.Zero))))

  same-emit : (n : ℕ) (value : Expr) → bit_of value ≡ true → Same (stmt.Assign (var.Formal n) value)
  same-emit n value known =
      behavior-Assign step.now (residing step) (no_calls (residing step)) (var.Formal n) value
      ∙ ap (assigned (var.Formal n)) (same_value value known)
      ∙ sym (behavior-Assign other.now (residing other) (no_calls (residing other)) (var.Formal n) value)

  same-loop : (number : ℕ) (body : Stmt) (condition : Expr) → bit_of condition ≡ true → Same body → Same (stmt.Loop number body condition)
  same-loop number body condition known h =
      behavior-Loop step.now (residing step) (no_calls (residing step)) number body condition
      ∙ ap₂ (repeated number) h (same_value condition known)
      ∙ sym (behavior-Loop other.now (residing other) (no_calls (residing other)) number body condition)

  pub same_walk : (outputs : ℕ) (s : Stmt) → is_first outputs s ≡ true → Same s
  same_walk outputs =
      first_induction outputs Same
      (behavior-Nothing step.now (residing step) (no_calls (residing step)) ∙ sym (behavior-Nothing other.now (residing other) (no_calls (residing other))))
      (λ n value inside known. same-emit n value known)
      (λ place. behavior-Pause step.now (residing step) (no_calls (residing step)) place ∙ sym (behavior-Pause other.now (residing other) (no_calls (residing other)) place))
      (λ parts h.
      behavior-Seq step.now (residing step) (no_calls (residing step)) parts
      ∙ ap (sequence (residing step)) (same_parts parts h)
      ∙ same_sequence (map (walk other) parts)
      ∙ sym (behavior-Seq other.now (residing other) (no_calls (residing other)) parts))
      same-loop
