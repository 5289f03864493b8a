-- What a `build` comes to, from what was found under its file's name.
use Rattle.std.proofs.Common.{◌≡◌, ℕ, zero, suc, List, [], ◌∷◌, take, Option, Result, Ok, Err, IfOk, sym, subst, string_bytes}
use Rattle.std.specs.Prelude.{IfErr}
use Rattle.qz_io.specs.Held.{Held}
use Rattle.qz_diag.specs.Causes.{Cause, NotBuilt, InstantLoop}
use Rattle.qz_first.specs.Limits.{largest_source}
use Rattle.qz_first.specs.Built.{IsBuilt}
use Rattle.qz_first.proofs.BuiltLemmas.{not_built_or_built, instant_or_built}
use Rattle.qz_driver.specs.declared.work.Output.{Output}
use Rattle.qz_driver.specs.declared.work.Stop.{Stop}
use Rattle.qz_driver.specs.declared.work.Stop.TheVariants as stop
use Rattle.qz_driver.specs.Rows.{Content, Bytes, StandsNone, IsMade, Read}
use Rattle.qz_driver.specs.Answers.{FilesSeen}
use Rattle.qz_driver.specs.BuildRow.{build_row, build_against, verilog_name, BuildMakes, IsOfBytes, IsOfContent}
use Rattle.qz_driver.specs.Work.{IsFound, IsUngot, StopsOver, Stops, IsWork}
use Rattle.qz_driver.proofs.RowLemmas.{first_contents, first_ungot, first_stops}

module _ (name file : List ℕ) where
  abbrev source : Read
  source = record { name = file; limit = largest_source }

  nothing_before : (cause : Cause) → build_against name file [] cause → ⊥
  nothing_before cause stands = stands

  built_stands_not : (bytes : List ℕ) (cause : Cause) → IsBuilt name bytes → IsOfBytes name file bytes cause → ⊥
  built_stands_not bytes (NotBuilt other) built stands = not_built_or_built name bytes stands.1 built
  built_stands_not bytes (InstantLoop number who) built stands = instant_or_built name bytes number who stands built
  built_stands_not bytes cause built stands = stands

  none_against : (bytes : List ℕ) (count : ℕ) (cause : Cause) → IsBuilt name bytes → build_against name file (take count (Bytes bytes ∷ [])) cause → ⊥
  none_against bytes zero cause built stands = stands
  none_against bytes (suc zero) cause built stands = built_stands_not bytes cause built stands
  none_against bytes (suc (suc count)) cause built stands = built_stands_not bytes cause built stands

  -- no cause stands where a text was made
  makes_none : (contents : List Content) (text : List ℕ) → BuildMakes name contents text → StandsNone (build_row name file) contents
  makes_none contents text makes = record {
    none = λ (count : ℕ) (cause : Cause) (stands : build_against name file (take count contents) cause).
        let P : List Content → Type 0 = λ c. build_against name file (take count c) cause in
        none_against makes.bytes count cause makes.built (subst P makes.there stands);
  }

  made : (held : Option Held) (content : Content) (text : List ℕ) → IsFound file largest_source held content → BuildMakes name (content ∷ []) text
      → IsMade (build_row name file) held text
  made held content text found makes = record {
    contents = content ∷ [];
    are = first_contents source [] (build_against name file) (verilog_name name) (BuildMakes name) nothing_before held content found;
    none = makes_none (content ∷ []) text makes;
    makes = makes;
  }

  pub ungot : (old new : FilesSeen) (stopped : Stop) → IsUngot file old new stopped → Stops (build_row name file) old new stopped
  ungot = first_ungot source [] (build_against name file) (verilog_name name) (BuildMakes name) nothing_before

  pub stops : (old new : FilesSeen) (content : Content) (stopped : Stop) → IsFound file largest_source old.held content → new ≡ old
      → StopsOver (IsOfContent name file content) stopped → Stops (build_row name file) old new stopped
  stops = first_stops source [] (build_against name file) (verilog_name name) (BuildMakes name) nothing_before

  -- what it makes of the text, by what was found
  pub works : (old new : FilesSeen) (content : Content) (text : List ℕ) (work : Result Output Stop) → IsFound file largest_source old.held content → new ≡ old
      → BuildMakes name (content ∷ []) text
      → IfOk work (λ output. string_bytes output.name ≡ verilog_name name) → IfOk work (λ output. output.bytes.items ≡ text) → IfErr work (λ stopped. stopped ≡ stop.Memory)
      → IsWork (build_row name file) old new work
  works old new content text (Ok output) found same makes named is fails = record {
    name = named;
    made = subst (IsMade (build_row name file) old.held) (sym is) (made old.held content text found makes);
    stays = same;
  }
  works old new content text (Err stopped) found same makes named is fails = subst (Stops (build_row name file) old new) (sym fails) same
