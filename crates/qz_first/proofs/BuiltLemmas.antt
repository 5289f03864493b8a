-- Which of these the bytes are: one alone.
use Rattle.std.proofs.Common.{◌≡◌, ℕ, ◌<◌, List, length, Some, None, Result, sym, ap, subst, ◌∙◌, arith}
use Rattle.std.proofs.lemmas.Result.{IfErr-weaker}
use Rattle.std.specs.Result.{IfErr}
use Rattle.qz_syntax.specs.declared.modules.Module.{Module}
use Rattle.qz_first.specs.declared.source.SourceModule.{SourceModule}
use Rattle.qz_first.specs.declared.reader.NoSource.{NoSource}
use Rattle.qz_first.specs.Grammar.{IsSource}
use Rattle.qz_first.specs.Reading.{OnNotBuilt, IsNoSource}
use Rattle.qz_first.specs.CoreTree.{IsAsked}
use Rattle.qz_first.specs.Built.{instant_loop_of, IsNotBuilt, IsInstant, IsBuilt}
use Rattle.qz_first.proofs.ReadingLemmas.{on_not_built}
use Rattle.qz_first.proofs.SourceLemmas.{same_source}

-- the one module that they describe isn't the one that was asked for
pub not_the_module : (name bytes : List ℕ) (source : SourceModule) → IsSource bytes source → (r : Result Module NoSource)
    → IfErr r (λ fault. OnNotBuilt fault (IsAsked name source → ⊥)) → IfErr r (λ fault. OnNotBuilt fault (IsNotBuilt name bytes))
not_the_module name bytes source read r none =
    IfErr-weaker r (λ fault. OnNotBuilt fault (IsAsked name source → ⊥)) (λ fault. OnNotBuilt fault (IsNotBuilt name bytes))
    (λ fault. on_not_built fault (λ (never : IsAsked name source → ⊥). record {
      none = λ (other : SourceModule) (other_read : IsSource bytes other) (asked : IsAsked name other).
          never (subst (IsAsked name) (same_source bytes other source other_read read) asked);
    })) none

pub no_source_not_built : (name bytes : List ℕ) (fault : NoSource) → OnNotBuilt fault (IsNoSource bytes) → OnNotBuilt fault (IsNotBuilt name bytes)
no_source_not_built name bytes fault = on_not_built fault (λ (no_source : IsNoSource bytes). record {
  none = λ (source : SourceModule) (read : IsSource bytes source) (asked : IsAsked name source). no_source.none source read;
})

pub not_built_or_built : (name bytes : List ℕ) → IsNotBuilt name bytes → IsBuilt name bytes → ⊥
not_built_or_built name bytes not is = not.none is.source is.read is.asked

pub instant_or_built : (name bytes : List ℕ) (number : ℕ) (who : List ℕ) → IsInstant name bytes number who → IsBuilt name bytes → ⊥
instant_or_built name bytes number who instant is =
    let same = same_source bytes instant.source is.source instant.read is.read in
    let e : Some number ≡ None = sym instant.loop ∙ ap instant_loop_of same ∙ is.no_loop in
    cc (e)

pub too_long_not_built : (name bytes : List ℕ) → 1048576 < length bytes → IsNotBuilt name bytes
too_long_not_built name bytes long = record {
  none = λ (source : SourceModule) (read : IsSource bytes source) (asked : IsAsked name source). omega (arith, long, read.length);
}
