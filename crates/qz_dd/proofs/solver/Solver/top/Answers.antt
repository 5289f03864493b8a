use Rattle.std.proofs.Common.{arith, ap, ◌≤◌, ◌≡◌, min, ⊎_elim, inl, inr, ◌∙◌, sym}
use Rattle.qz_dd.specs.Tables.{level_in}
use Rattle.qz_dd.proofs.Calling.{top_less, least_of}
use Rattle.qz_dd.proofs.solver.Solver.top.Goals as goal

pub returns : goal.returns
returns c =
    let t = c.args.self.now.table in
    let call = c.args.call in
    let m = c.min-2.result in
    let x = level_in t call.a.0 in
    let y = level_in t call.b.0 in
    let z = level_in t call.c.0 in
    let is : m ≡ min (min x y) z =
    c.min-2.ensures ∙ ap (λ k. min k c.level-c.result) c.min.ensures ∙ (λ i. min (min (c.level-a.ensures i) (c.level-b.ensures i)) (c.level-c.ensures i)) in
    let a : m ≤ x = omega (arith, is) in
    let b : m ≤ y = omega (arith, is) in
    let d : m ≤ z = omega (arith, is) in
    record {
      variable = top_less t call c.requires.has c.requires.undecided m a b d;
      a = a;
      b = b;
      c = d;
      reached = ⊎_elim (λ r. inl (r ∙ sym is)) (λ s. ⊎_elim (λ r. inr (inl (r ∙ sym is))) (λ r. inr (inr (r ∙ sym is))) s) (least_of x y z);
    }
