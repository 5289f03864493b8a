-- Which line of bytes is refused.
use Rattle.std.specs.Prelude.{◌≡◌, ℕ, ◌+◌, true, List, [], ◌∷◌, ◌++◌, length}
use Rattle.std.specs.List.{AllByRecursion}
use Rattle.qz_verilog.specs.declared.modules.VModule.{VModule}
use Rattle.qz_verilog.specs.Validity.{IsValid, port_names}
use Rattle.qz_vread.specs.Naming.{IsNamed}
use Rattle.qz_vread.specs.Parts.{lacks}
use Rattle.qz_vtext.specs.Text.{text_of, joined}

-- a module that can be written, whose names are names of the language
pub record IsModule (m : VModule) : Type 0 where
  pub valid : IsValid m
  pub name : IsNamed m.name
  pub ports : AllByRecursion IsNamed (port_names (m.inputs ++ m.outputs))

-- the text of some module begins with these bytes
pub record Begins (front : List ℕ) : Type 0 where
  pub module_begun : VModule
  pub is_module : IsModule module_begun
  pub rest : List ℕ
  pub begun : text_of module_begun ≡ front ++ rest

-- no line has a line feed within it
abbrev pub AreLines : List (List ℕ) → Type 0
AreLines lines = AllByRecursion (λ line. lacks 10 line ≡ true) lines

-- the line with this number, from 1 on, is the first that no module's text has after the lines before it
pub record IsRefused (bytes : List ℕ) (number : ℕ) : Type 0 where
  -- the bytes are no module's text
  pub no_text : (m : VModule) → IsModule m → text_of m ≡ bytes → ⊥
  -- the lines before it, each of which has a line feed at its end, and the bytes after them
  pub before : List (List ℕ)
  pub after : List ℕ
  pub lines : AreLines before
  pub whole : bytes ≡ joined before ++ after
  pub count : number ≡ length before + 1
  -- some module's text begins with the lines before it
  pub begun : Begins (joined before)
  -- where it has a line feed at its end, no module's text begins with them and with it
  pub none : (line later : List ℕ) → lacks 10 line ≡ true → after ≡ line ++ 10 ∷ later → Begins (joined (before ++ line ∷ [])) → ⊥
