use Rattle.std.proofs.Common.{◌≡◌, ◌+◌, ◌≤◌, ◌++◌, [], ◌∷◌, length, true, false, sym, ap, ◌∙◌, subst, arith}
use Rattle.std.specs.Str.{chars}
use Rattle.std.specs.Char.{encode_utf8}
use Rattle.std.proofs.lemmas.Str.{chars_past_char}
use Rattle.qz_lexer.specs.Runs.{Stops, Skips, accepts}
use Rattle.qz_lexer.proofs.TextLemmas.{shorter_by_char, chars_empty}
use Rattle.qz_lexer.proofs.RunLemmas.{skips_more, stops_cons, skips_at_none}
use Rattle.qz_lexer.proofs.runs.Run.skip.Goals as goal

pub returns-then-not-accepts : goal.returns-then-not-accepts
returns-then-not-accepts c =
    let inv = c.loop-c.invariant in
    let text : chars c.loop-c.rest.now ≡ c.in-Some.c ∷ chars c.next.new.self.rest.now =
    chars_past_char _ _ _ inv.utf8 (sym inv.same ∙ c.in-Some.ensures.steps.0) in
    let refused : accepts c.args.self c.in-Some.c ≡ false = cc in
    skips_at_none _ _ _ _ inv.goes_on (stops_cons _ _ _ _ text refused)

pub loop-c-preserved : goal.loop-c-preserved
loop-c-preserved c =
    let inv = c.loop-c.invariant in
    let left : c.as_str-rest.result.now ≡ c.next.new.self.rest.now = c.as_str-rest.ensures in
    let text : chars c.loop-c.rest.now ≡ c.in-Some.c ∷ chars c.as_str-rest.result.now =
    chars_past_char _ _ _ inv.utf8 (sym inv.same ∙ c.in-Some.ensures.steps.0) ∙ ap (λ t. c.in-Some.c ∷ chars t) (sym left) in
    let accepted : accepts c.args.self c.in-Some.c ≡ true = cc in
    record {
      can_next = tt;
      is_finite = tt;
      utf8 = c.as_str-rest.utf8;
      same = sym left;
      bound = (let step : length c.as_str-rest.result.now + 1 ≤ length c.loop-c.rest.now = shorter_by_char c.in-Some.c _ _ (sym inv.same ∙ c.in-Some.ensures.steps.0 ∙ ap (λ t. encode_utf8 c.in-Some.c ++ t) (sym left)) in omega arith);
      goes_on = λ n after rest. subst (λ m. Skips (accepts c.args.self) (chars c.args.text.now) m after) (omega arith)
          (inv.goes_on (n + 1) after (subst (λ t. Skips (accepts c.args.self) t (n + 1) after) (sym text) (skips_more _ _ _ _ _ accepted rest)));
    }

pub returns : goal.returns
returns c =
    let inv = c.loop-c.invariant in
    let ended : chars c.loop-c.rest.now ≡ [] = chars_empty _ (ap length (sym inv.same) ∙ c.in_default.ensures.steps.0.0) in
    skips_at_none _ _ _ _ inv.goes_on (subst (Stops (accepts c.args.self)) (sym ended) tt)
