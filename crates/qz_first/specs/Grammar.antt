-- How a source of the first language is spelled: the texts of its tokens, in order.
use Rattle.std.specs.Prelude.{ℕ, ◌≡◌, ◌+◌, ◌≤◌, Bool, true, List, [], ◌∷◌, ◌++◌, length, max, map, codes, IsTrue, Contains, Ok}
use Rattle.std.specs.List.{flat_map, list_all}
use Rattle.std.specs.Str.{chars, IsAscii}
use Rattle.qz_values.specs.declared.Ty.TheVariants as ty
use Rattle.qz_lexer.specs.Lexemes.{Lexeme, Lexes}
use Rattle.qz_syntax.specs.Spelling.{is_name}
use Rattle.qz_syntax.specs.declared.declarations.Class.TheVariants.{Event}
use Rattle.qz_syntax.specs.declared.declarations.Dir.TheVariants.{Out}
use Rattle.qz_syntax.specs.declared.declarations.Formal.{Formal}
use Rattle.qz_first.specs.Limits.{largest_source, most_levels}
use Rattle.qz_first.specs.declared.source.SourceModule.{SourceModule}
use Rattle.qz_first.specs.declared.source.SourceStmt.{SourceStmt}
use Rattle.qz_first.specs.declared.source.SourceStmt.TheOpen.{SourceStmt-F}
use Rattle.qz_first.specs.declared.source.SourceStmt.TheFolds.{fold-SourceStmt}

-- one statement, given the texts of its parts
abbrev pub node_spelling : SourceStmt-F (List (List ℕ)) → List (List ℕ)
node_spelling SourceStmt-F.Nothing = codes "nothing" ∷ codes ";" ∷ []
node_spelling SourceStmt-F.Pause = codes "pause" ∷ codes ";" ∷ []
node_spelling (SourceStmt-F.Emit name) = codes "emit" ∷ name ∷ codes ";" ∷ []
node_spelling (SourceStmt-F.Loop body) = codes "loop" ∷ body
node_spelling (SourceStmt-F.Block parts) = codes "{" ∷ (flat_map (λ part. part) parts ++ codes "}" ∷ [])

abbrev pub spelling : SourceStmt → List (List ℕ)
spelling = fold-SourceStmt (List (List ℕ)) node_spelling

-- the statements of a block, and the brace that ends it
abbrev pub block_spelling : List SourceStmt → List (List ℕ)
block_spelling parts = flat_map (λ part. part) (map spelling parts) ++ codes "}" ∷ []

-- the largest of some numbers
abbrev pub most : List ℕ → ℕ
most [] = 0
most (n ∷ ns) = max n (most ns)

-- how many levels a statement has: one more than what it holds
abbrev pub node_levels : SourceStmt-F ℕ → ℕ
node_levels SourceStmt-F.Nothing = 1
node_levels SourceStmt-F.Pause = 1
node_levels (SourceStmt-F.Emit name) = 1
node_levels (SourceStmt-F.Loop body) = body + 1
node_levels (SourceStmt-F.Block parts) = most parts + 1

abbrev pub levels : SourceStmt → ℕ
levels = fold-SourceStmt ℕ node_levels

-- whether what is emitted are names
abbrev pub node_has_names : SourceStmt-F Bool → Bool
node_has_names SourceStmt-F.Nothing = true
node_has_names SourceStmt-F.Pause = true
node_has_names (SourceStmt-F.Emit name) = is_name name
node_has_names (SourceStmt-F.Loop body) = body
node_has_names (SourceStmt-F.Block parts) = list_all (λ part. part) parts

abbrev pub has_names : SourceStmt → Bool
has_names = fold-SourceStmt Bool node_has_names

-- a statement whose own level is this one, with no level above the limit
pub record Fits (level : ℕ) (s : SourceStmt) : Type 0 where
  pub levels : level + levels s ≤ most_levels + 1
  pub names : IsTrue (has_names s)

-- some statements whose own level is this one
pub record AllFit (level : ℕ) (parts : List SourceStmt) : Type 0 where
  pub levels : level + most (map levels parts) ≤ most_levels + 1
  pub names : IsTrue (list_all (λ part. part) (map has_names parts))

-- the formal that is an output event of this name
abbrev pub output : List ℕ → Formal
output name = record { class = Event; dir = Out; ty = ty.Bool; name = name }

-- an output event with a name, which is all that a formal can be
pub record IsOutput (formal : Formal) : Type 0 where
  pub is : formal ≡ output formal.name
  pub named : IsTrue (is_name formal.name)

abbrev pub AreOutputs : List Formal → Type 0
AreOutputs [] = Unit {0}
AreOutputs (formal ∷ formals) = IsOutput formal × AreOutputs formals

abbrev pub formal_spelling : Formal → List (List ℕ)
formal_spelling formal = codes "event" ∷ codes "!" ∷ formal.name ∷ []

-- formals after a comma each, and the parenthesis that ends their list
abbrev pub later_formals_spelling : List Formal → List (List ℕ)
later_formals_spelling [] = codes ")" ∷ []
later_formals_spelling (formal ∷ formals) = codes "," ∷ (formal_spelling formal ++ later_formals_spelling formals)

-- formals with commas between them, and the parenthesis that ends their list
abbrev pub formals_spelling : List Formal → List (List ℕ)
formals_spelling [] = codes ")" ∷ []
formals_spelling (formal ∷ formals) = formal_spelling formal ++ later_formals_spelling formals

abbrev pub module_spelling : SourceModule → List (List ℕ)
module_spelling m = codes "module" ∷ m.name ∷ codes "(" ∷ (formals_spelling m.formals ++ codes "{" ∷ block_spelling m.body)

-- a module whose names are names, with no level above the limit: its block has level 1
pub record FitsModule (m : SourceModule) : Type 0 where
  pub name : IsTrue (is_name m.name)
  pub formals : AreOutputs m.formals
  pub body : AllFit 2 m.body

-- the bytes are a text of the first language, and it describes this module
pub record IsSource (bytes : List ℕ) (m : SourceModule) : Type 0 where
  pub length : length bytes ≤ largest_source
  pub ascii : IsAscii bytes
  -- only comments have a slash
  pub no_comment : ¬ Contains bytes 47
  pub lexemes : List Lexeme
  pub lexed : Lexes (chars bytes) (Ok lexemes)
  pub spelled : map (λ (lexeme : Lexeme). chars lexeme.text) lexemes ≡ module_spelling m
  pub fits : FitsModule m
