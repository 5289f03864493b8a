-- Scopes: blocks with local variables.
use Rattle.std.specs.Prelude.{ℕ, ◌==◌, Bool, false, ◌&&◌, List, ◌++◌, length, map, Some, None}
use Rattle.std.specs.List.{zip}
use Rattle.qz_syntax.specs.declared.places.Mark.{Mark}
use Rattle.qz_syntax.specs.declared.places.Mark.TheVariants as mark
use Rattle.qz_syntax.specs.declared.places.Store.{Store}
use Rattle.qz_syntax.specs.declared.places.Residual.{Residual, out-Residual}
use Rattle.qz_syntax.specs.declared.places.Residual.TheOpen.{Residual-F}
use Rattle.qz_meaning.specs.Instances.{local_instance}
use Rattle.qz_meaning.specs.Scenes.{with_locals}
use Rattle.qz_meaning.specs.Residuals.{inner, stores_of}
use Rattle.qz_meaning.specs.Accounts.{Account}
use Rattle.qz_meaning.specs.Layouts.{Met, Layout}
use Rattle.qz_meaning.specs.Behaviors.{Behavior}

-- A start makes new instances with its mark; a resume keeps those with mark zero.
abbrev pub scope : {D T : Type 0} → Account D T → List ℕ → Behavior D T → Behavior D T
scope acc locals body = record {
  ends = λ ctx m. body.ends (with_locals ctx locals m) m;
  start = λ ctx g m. body.start (with_locals ctx locals m) g m;
  ended = λ ctx r. body.ended (with_locals ctx locals mark.Zero) (inner r);
  resume = λ ctx r g. body.resume (with_locals ctx locals mark.Zero) (inner r) g;
  rest = λ ctx m. acc.in_scope locals m (body.rest (with_locals ctx locals m) m);
  after = λ ctx r. acc.in_scope locals mark.Zero (body.after (with_locals ctx locals mark.Zero) (inner r));
  kept = λ r. acc.in_scope locals mark.Zero (body.kept (inner r));
}

-- the locals' instances with this mark, which are new
abbrev pub met_new : List ℕ → Mark → List Met
met_new locals m = map (λ n. record { instance = local_instance n m; store = None }) locals

-- the locals' kept instances, met with the stores that are kept for them
abbrev pub met_kept : List ℕ → List Store → List Met
met_kept locals stores = map (λ (one : ℕ × Store). record { instance = local_instance one.0 mark.Zero; store = Some one.1 }) (zip locals stores)

-- control rests in a scope, with one store for each of its locals
abbrev pub fits_in_scope : List ℕ → Layout → Residual-F Residual → Bool
fits_in_scope locals body (Residual-F.InScope stores inside) = (length stores == length locals) && body.fits inside
fits_in_scope locals body other = false

-- a start makes new instances, a resume keeps those with mark zero
abbrev pub scope_layout : List ℕ → Layout → Layout
scope_layout locals body = record {
  met_on_start = λ m. met_new locals m ++ body.met_on_start m;
  met_on_resume = λ r. met_kept locals (stores_of r) ++ body.met_on_resume (inner r);
  fits = λ r. fits_in_scope locals body (out-Residual r);
  stores_at = λ r. body.stores_at (inner r) ++ zip locals (stores_of r);
  at = λ bits r. body.at bits (inner r);
  away = λ bits. body.away bits;
}
