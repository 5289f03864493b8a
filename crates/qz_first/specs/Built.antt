-- What bytes are against a request: no text that is built yet, a module with a loop that may end at once, or
-- one that is built.
use Rattle.std.specs.Prelude.{ℕ, ◌≡◌, List, [], Option, Some, None, slice_get, encode_utf8_all}
use Rattle.qz_syntax.specs.Endings.{instant_loops}
use Rattle.qz_syntax.specs.declared.modules.Module.{Module}
use Rattle.qz_first.specs.declared.source.SourceModule.{SourceModule}
use Rattle.qz_first.specs.Grammar.{IsSource}
use Rattle.qz_first.specs.CoreTree.{core_module, IsAsked}

-- the first loop in tree order whose body may end at once
abbrev pub instant_loop_of : SourceModule → Option ℕ
instant_loop_of source = slice_get (instant_loops [] (core_module source).body) 0

-- the module of this name, which they describe
pub record IsModuleOf (name bytes : List ℕ) (m : Module) : Type 0 where
  pub source : SourceModule
  pub read : IsSource bytes source
  pub asked : IsAsked name source
  pub core : m ≡ core_module source

-- they are no text of the first language that has the module of this name
pub record IsNotBuilt (name bytes : List ℕ) : Type 0 where
  pub none : (source : SourceModule) → IsSource bytes source → IsAsked name source → ⊥

-- they are one, and this loop of it is the first whose body may end at once
pub record IsInstant (name bytes : List ℕ) (number : ℕ) (who : List ℕ) : Type 0 where
  pub source : SourceModule
  pub read : IsSource bytes source
  pub asked : IsAsked name source
  pub loop : instant_loop_of source ≡ Some number
  pub named : who ≡ encode_utf8_all source.name

-- they are one without such a loop
pub record IsBuilt (name bytes : List ℕ) : Type 0 where
  pub source : SourceModule
  pub read : IsSource bytes source
  pub asked : IsAsked name source
  pub no_loop : instant_loop_of source ≡ None
