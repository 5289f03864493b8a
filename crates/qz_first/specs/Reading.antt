-- What reading from the tokens that come next gives, and what it means that nothing can be read there.
use Rattle.std.specs.Prelude.{ℕ, ◌≡◌, List, ◌∷◌, ◌++◌, map, drop, IsTrue, codes}
use Rattle.std.specs.Str.{chars}
use Rattle.qz_lexer.specs.declared.tokens.Token.{Token}
use Rattle.qz_lexer.specs.declared.faults.LexFault.{LexFault}
use Rattle.qz_lexer.specs.declared.faults.LexFault.TheVariants as lex
use Rattle.qz_syntax.specs.Spelling.{is_name}
use Rattle.qz_syntax.specs.declared.declarations.Formal.{Formal}
use Rattle.qz_first.specs.declared.source.SourceStmt.{SourceStmt}
use Rattle.qz_first.specs.declared.source.SourceModule.{SourceModule}
use Rattle.qz_first.specs.declared.reader.Cursor.{Cursor}
use Rattle.qz_first.specs.declared.reader.NoSource.{NoSource}
use Rattle.qz_first.specs.declared.reader.NoSource.TheVariants.{NotBuilt, Memory}
use Rattle.qz_first.specs.declared.reader.Start.{Start}
use Rattle.qz_first.specs.declared.reader.Start.TheVariants.{Nothing, Pause, Emit, Loop, Block}
use Rattle.qz_first.specs.Grammar.{spelling, block_spelling, Fits, AllFit, IsOutput, AreOutputs, formal_spelling, formals_spelling, FitsModule, module_spelling, IsSource}

-- the characters of each token
abbrev pub texts : List Token → List (List ℕ)
texts tokens = map (λ (token : Token). chars token.text.now) tokens

-- the characters of each token that is still to be read
abbrev pub upcoming : Cursor → List (List ℕ)
upcoming cursor = texts (drop cursor.read cursor.tokens.now)

-- what holds where nothing is read but for want of memory
abbrev pub OnNotBuilt : NoSource → Type 0 → Type 0
OnNotBuilt NotBuilt fact = fact
OnNotBuilt Memory fact = Unit {0}

-- where a text has no tokens, it is none of the first language
abbrev pub no_source_of : LexFault → NoSource
no_source_of (lex.At offset) = NotBuilt
no_source_of lex.Memory = Memory

-- this text does not come next
pub record NoText (text : List ℕ) (upcoming : List (List ℕ)) : Type 0 where
  pub none : (rest : List (List ℕ)) → upcoming ≡ text ∷ rest → ⊥

-- no name comes next
pub record NoName (upcoming : List (List ℕ)) : Type 0 where
  pub none : (name : List ℕ) (rest : List (List ℕ)) → IsTrue (is_name name) → upcoming ≡ name ∷ rest → ⊥

-- the words with which statements begin
abbrev pub word_of : Start → List ℕ
word_of Nothing = codes "nothing"
word_of Pause = codes "pause"
word_of Emit = codes "emit"
word_of Loop = codes "loop"
word_of Block = codes "{"

-- no word with which a statement begins comes next
pub record NoStart (upcoming : List (List ℕ)) : Type 0 where
  pub none : (start : Start) → NoText (word_of start) upcoming

-- no statement of this level comes next
pub record NoStatement (level : ℕ) (upcoming : List (List ℕ)) : Type 0 where
  pub none : (s : SourceStmt) (rest : List (List ℕ)) → Fits level s → upcoming ≡ spelling s ++ rest → ⊥

-- no statements of this level and then the end of their block come next
pub record NoBlock (level : ℕ) (upcoming : List (List ℕ)) : Type 0 where
  pub none : (parts : List SourceStmt) (rest : List (List ℕ)) → AllFit level parts → upcoming ≡ block_spelling parts ++ rest → ⊥

-- no formal comes next
pub record NoFormal (upcoming : List (List ℕ)) : Type 0 where
  pub none : (formal : Formal) (rest : List (List ℕ)) → IsOutput formal → upcoming ≡ formal_spelling formal ++ rest → ⊥

-- no formals and then the end of their list come next
pub record NoFormals (upcoming : List (List ℕ)) : Type 0 where
  pub none : (formals : List Formal) (rest : List (List ℕ)) → AreOutputs formals → upcoming ≡ formals_spelling formals ++ rest → ⊥

-- no module comes next
pub record NoModule (upcoming : List (List ℕ)) : Type 0 where
  pub none : (m : SourceModule) (rest : List (List ℕ)) → FitsModule m → upcoming ≡ module_spelling m ++ rest → ⊥

-- the bytes are no text of the first language
pub record IsNoSource (bytes : List ℕ) : Type 0 where
  pub none : (m : SourceModule) → IsSource bytes m → ⊥
