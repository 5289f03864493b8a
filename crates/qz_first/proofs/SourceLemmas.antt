-- Which bytes are a source, as they are read.
use Rattle.std.proofs.Common.{◌≡◌, ◌≢◌, ℕ, ◌≤◌, List, [], ◌∷◌, ◌++◌, map, length, Result, Ok, Err, append-nil, sym, refl, ap, ◌∙◌}
use Rattle.std.specs.List.{Contains}
use Rattle.std.specs.Option.{IfSome}
use Rattle.std.specs.Result.{IfOk, IfErr}
use Rattle.std.specs.Str.{chars, IsUtf8, IsAscii}
use Rattle.std.proofs.lemmas.Str.{IsUtf8-from_ascii}
use Rattle.qz_lexer.specs.declared.tokens.Token.{Token}
use Rattle.qz_lexer.specs.declared.faults.LexFault.{LexFault}
use Rattle.qz_lexer.specs.declared.faults.LexFault.TheVariants as lex
use Rattle.qz_lexer.specs.Lexemes.{Lexeme, lexeme, Lexes, outcome_of}
use Rattle.qz_first.specs.declared.source.SourceModule.{SourceModule}
use Rattle.qz_first.specs.declared.reader.NoSource.{NoSource}
use Rattle.qz_first.specs.declared.reader.NoSource.TheVariants.{NotBuilt, Memory}
use Rattle.qz_first.specs.Grammar.{FitsModule, module_spelling, IsSource}
use Rattle.qz_first.specs.Reading.{texts, OnNotBuilt, no_source_of, NoModule, IsNoSource}
use Rattle.qz_lexer.proofs.CutLemmas.{lexes_same}
use Rattle.qz_first.proofs.FormalLemmas.{one_module}

-- no module is all of these tokens where none comes first
pub no_whole_module : (upcoming : List (List ℕ)) → NoModule upcoming → (m : SourceModule) → FitsModule m → upcoming ≢ module_spelling m
no_whole_module upcoming no_module m fits e = no_module.none m [] fits (e ∙ sym (append-nil (module_spelling m)))

-- or where another token follows the one that does
pub one_token_more : (upcoming rest last : List (List ℕ)) (text : List ℕ) (found : SourceModule) → upcoming ≡ module_spelling found ++ rest → FitsModule found
    → rest ≡ text ∷ last → (m : SourceModule) → FitsModule m → upcoming ≢ module_spelling m
one_token_more upcoming rest last text found is found_fits more m fits e =
    let same = one_module found m rest [] found_fits fits (sym is ∙ e ∙ sym (append-nil (module_spelling m))) in
    let nothing : rest ≡ [] = same.1 in
    cc

pub not_utf8 : (bytes : List ℕ) → (IsUtf8 bytes → ⊥) → IsNoSource bytes
not_utf8 bytes not = record { none = λ (m : SourceModule) (source : IsSource bytes m). not (IsUtf8-from_ascii bytes source.ascii) }

texts-lexemes : (tokens : List Token) → map (λ (l : Lexeme). chars l.text) (map lexeme tokens) ≡ texts tokens
texts-lexemes [] = refl
texts-lexemes (token ∷ tokens) = ap (λ xs. chars token.text.now ∷ xs) (texts-lexemes tokens)

-- a text without tokens is none
pub no_tokens : (bytes : List ℕ) (fault : LexFault)
    → ((outcome : Result (List Lexeme) ℕ) → Lexes (chars bytes) outcome → IfSome (outcome_of {X = List Token} (λ tokens. tokens) (Err fault)) (λ told. told ≡ outcome))
    → OnNotBuilt (no_source_of fault) (IsNoSource bytes)
no_tokens bytes (lex.At offset) only = record { none = λ (m : SourceModule) (source : IsSource bytes m). let e = only (Ok source.lexemes) source.lexed in cc (e) }
no_tokens bytes lex.Memory only = tt

module _ (bytes : List ℕ) (tokens : List Token) (lexed : Lexes (chars bytes) (Ok (map lexeme tokens))) where
  pub is_source : length bytes ≤ 1048576 → IsAscii bytes → ¬ Contains bytes 47 → (r : Result SourceModule NoSource)
      → IfOk r (λ m. texts tokens ≡ module_spelling m) → IfOk r FitsModule → IfOk r (IsSource bytes)
  is_source short ascii no_slash (Ok m) is fits = record {
    length = short;
    ascii = ascii;
    no_comment = no_slash;
    lexemes = map lexeme tokens;
    lexed = lexed;
    spelled = texts-lexemes tokens ∙ is;
    fits = fits;
  }
  is_source short ascii no_slash (Err fault) is fits = tt

  pub is_no_source : ((outcome : Result (List Lexeme) ℕ) → Lexes (chars bytes) outcome → Ok (map lexeme tokens) ≡ outcome) → (r : Result SourceModule NoSource)
      → IfErr r (λ fault. OnNotBuilt fault ((m : SourceModule) → FitsModule m → texts tokens ≢ module_spelling m)) → IfErr r (λ fault. OnNotBuilt fault (IsNoSource bytes))
  is_no_source only (Ok m) none = tt
  is_no_source only (Err Memory) none = tt
  is_no_source only (Err NotBuilt) none = record {
    none = λ (m : SourceModule) (source : IsSource bytes m).
        let e = only (Ok source.lexemes) source.lexed in
        let same : map lexeme tokens ≡ source.lexemes = cc (e) in
        none m source.fits (sym (texts-lexemes tokens) ∙ ap (λ (xs : List Lexeme). map (λ (l : Lexeme). chars l.text) xs) same ∙ source.spelled);
  }

-- a text describes one module
pub same_source : (bytes : List ℕ) (m n : SourceModule) → IsSource bytes m → IsSource bytes n → m ≡ n
same_source bytes m n source other =
    let outcome = lexes_same (chars bytes) (Ok source.lexemes) (Ok other.lexemes) source.lexed other.lexed in
    let same : source.lexemes ≡ other.lexemes = cc (outcome) in
    let spelled : module_spelling m ≡ module_spelling n =
    sym source.spelled ∙ ap (λ (xs : List Lexeme). map (λ (l : Lexeme). chars l.text) xs) same ∙ other.spelled in
    (one_module m n [] [] source.fits other.fits (ap (λ xs. xs ++ []) spelled)).0
