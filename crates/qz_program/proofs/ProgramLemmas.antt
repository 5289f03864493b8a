-- Bytes that make a program make no other, and nothing stands against them.
use Rattle.std.proofs.Common.{◌≡◌, ℕ, ◌≤◌, ◌<◌, arith, List, [], ◌∷◌, Result, Ok, Err, IfOk, refl, sym, ap, ap₂, subst, ◌∙◌}
use Rattle.std.specs.Prelude.{◌≢◌, Some, slice_get, IsTrue, IfErr, Contains}
use Rattle.std.specs.List.{list_all}
use Rattle.qz_syntax.specs.declared.files.File.{File}
use Rattle.qz_syntax.specs.declared.declarations.Proto.{Proto}
use Rattle.qz_syntax.specs.declared.modules.Module.{Module}
use Rattle.qz_syntax.specs.declared.modules.Names.{Names}
use Rattle.qz_syntax.specs.declared.modules.Typed.{Typed}
use Rattle.qz_syntax.specs.declared.modules.Whole.{Whole}
use Rattle.qz_syntax.specs.Endings.{instant_loops}
use Rattle.qz_syntax.specs.Sound.{is_sound}
use Rattle.qz_syntax.specs.Typing.{no_sight}
use Rattle.qz_syntax.specs.WellFormed.{IsWellFormed, declared_by}
use Rattle.qz_source.specs.declared.faults.SourceFault.{SourceFault}
use Rattle.qz_source.specs.declared.faults.SourceFault.TheVariants as fault
use Rattle.qz_source.specs.Sources.{IsSource, IsSourceFault}
use Rattle.qz_source.specs.OneAnswer.{HasOneAnswer}
use Rattle.qz_types.specs.Faults.{fault_at, IsFirst}
use Rattle.qz_types.specs.declared.faults.Fault.{Fault}
use Rattle.qz_types.specs.CoreModules.{core_of}
use Rattle.qz_types.specs.FileFaults.{faults_of}
use Rattle.qz_types.specs.Orderly.{IsOrderly}
use Rattle.qz_program.specs.declared.causes.NoProgram.{NoProgram}
use Rattle.qz_program.specs.declared.causes.NoProgram.TheVariants.{NotUtf8, Lex, Parse, Deep, Types, Prototypes, FileSize, Missing, InstantLoop, Size, Memory}
use Rattle.qz_program.specs.Programs.{IsAlone, IsModuleOf, IsLinked, IsOf, IsProgramOf}
use Rattle.qz_program.specs.Causes.{StandsAgainstTyped, StandsAgainstLink, StandsAgainstFile, StandsAgainst, HasFileCause}

-- a typed source that is orderly and has no prototypes has a module that is well formed without any
pub well_formed : (t : Typed) → IsOrderly t → t.protos ≡ [] → IsWellFormed [] t.module
well_formed t orderly alone = record {
  numbered = orderly.numbered;
  unlabelled = orderly.unlabelled;
  proto_types = refl;
  formal_types = orderly.formal_types;
  local_types = orderly.local_types;
  sound = subst (λ (protos : List Proto). IsTrue (is_sound (declared_by protos t.module) t.module.body no_sight)) alone orderly.sound;
}

-- two whole programs with the same top of one name
same_whole : (name : List ℕ) (m : Module) (w other : Whole) → IsLinked name m w → IsLinked name m other → other ≡ w
same_whole name m w other one two =
    let whole : Module → Names → Whole = λ top names. record { «module» = top; names = names } in
    ap₂ whole (two.is ∙ sym one.is) (two.names ∙ sym one.names)

-- a file's module is one alone
same_module : (f : File) (m other : Module) → IsModuleOf f m → IsModuleOf f other → other ≡ m
same_module f m other one two = two.is ∙ sym one.is

same_of : (name : List ℕ) (f : File) (w other : Whole) → IsOf name f w → IsOf name f other → other ≡ w
same_of name f w other one two =
    let same : two.root ≡ one.root = same_module f one.root two.root one.is two.is in
    same_whole name one.root w other one.linked (subst (λ (m : Module). IsLinked name m other) same two.linked)

no_first : (faults : List Fault) (it : Fault) → faults ≡ [] → IsFirst faults it → ⊥
no_first faults it none first =
    let found : Contains {X = Fault} [] it = subst (λ (l : List Fault). Contains l it) none first.stands in
    omega (arith, found.1)

no_number : (loops : List ℕ) (number : ℕ) → loops ≡ [] → slice_get loops 0 ≡ Some number → ⊥
no_number loops number none found = cc (ap (λ (l : List ℕ). slice_get l 0) none, found)

-- what comes of a file's module is what comes of the file
pub linked_of : (name : List ℕ) (f : File) (root : Module) (r : Result Whole NoProgram) → IsModuleOf f root → IfOk r (IsLinked name root) → IfOk r (IsOf name f)
linked_of name f root (Ok w) is linked = record { root = root; is = is; linked = linked }
linked_of name f root (Err why) is linked = tt

link_cause_of : (name : List ℕ) (f : File) (root : Module) (why : NoProgram) → IsModuleOf f root → StandsAgainstLink name root why → StandsAgainstFile name f why
link_cause_of name f root Missing is stands = record { root = root; is = is; stands = stands }
link_cause_of name f root (InstantLoop who number) is stands = record { root = root; is = is; stands = stands }
link_cause_of name f root (Size units) is stands = record { root = root; is = is; stands = stands }
link_cause_of name f root Memory is stands = tt
link_cause_of name f root (NotUtf8 offset) is stands = absurd stands
link_cause_of name f root (Lex offset) is stands = absurd stands
link_cause_of name f root (Parse offset) is stands = absurd stands
link_cause_of name f root (Deep offset) is stands = absurd stands
link_cause_of name f root (Types offset kind) is stands = absurd stands
link_cause_of name f root Prototypes is stands = absurd stands
link_cause_of name f root (FileSize units) is stands = absurd stands

pub not_linked : (name : List ℕ) (f : File) (root : Module) (r : Result Whole NoProgram) → IsModuleOf f root → IfErr r (StandsAgainstLink name root)
    → IfErr r (StandsAgainstFile name f)
not_linked name f root (Ok w) is stands = tt
not_linked name f root (Err why) is stands = link_cause_of name f root why is stands

module _ (name : List ℕ) (f : File) (w : Whole) (is : IsOf name f w) where
  -- nothing stands against a module that is a whole program
  no_link_cause : (why : NoProgram) → StandsAgainstLink name is.root why → why ≡ Memory
  no_link_cause Missing stands = absurd (stands is.linked.accepted.is_top)
  no_link_cause (InstantLoop who number) stands = absurd (no_number (instant_loops [] is.root.body) number is.linked.accepted.no_instant stands.first)
  no_link_cause (Size units) stands = absurd (omega (arith, stands.size, stands.above, is.linked.accepted.size))
  no_link_cause Memory stands = refl
  no_link_cause (NotUtf8 offset) stands = absurd stands
  no_link_cause (Lex offset) stands = absurd stands
  no_link_cause (Parse offset) stands = absurd stands
  no_link_cause (Deep offset) stands = absurd stands
  no_link_cause (Types offset kind) stands = absurd stands
  no_link_cause Prototypes stands = absurd stands
  no_link_cause (FileSize units) stands = absurd stands

  link_cause : (why : NoProgram) (root : Module) → IsModuleOf f root → StandsAgainstLink name root why → why ≡ Memory
  link_cause why root of stands =
      no_link_cause why (subst (λ (m : Module). StandsAgainstLink name m why) (same_module f is.root root is.is of) stands)

  -- nothing stands against the file
  pub no_file_cause : (why : NoProgram) → StandsAgainstFile name f why → why ≡ Memory
  no_file_cause (NotUtf8 offset) stands = absurd stands
  no_file_cause (Lex offset) stands = absurd stands
  no_file_cause (Parse offset) stands = absurd stands
  no_file_cause (Deep offset) stands = absurd stands
  no_file_cause (Types offset kind) stands = absurd (no_first (faults_of f) (fault_at kind offset) is.is.no_fault stands)
  no_file_cause Prototypes stands = absurd (stands.stands is.is.alone.alone)
  no_file_cause (FileSize units) stands = absurd (omega (arith, stands.stands.size, stands.stands.above, is.is.alone.small))
  no_file_cause Missing stands = link_cause Missing stands.root stands.is stands.stands
  no_file_cause (InstantLoop who number) stands = link_cause (InstantLoop who number) stands.root stands.is stands.stands
  no_file_cause (Size units) stands = link_cause (Size units) stands.root stands.is stands.stands
  no_file_cause Memory stands = refl

module _ (name bytes : List ℕ) (f : File) (source : IsSource bytes f) (only : (other : File) → IsSource bytes other → other ≡ f)
    (w : Whole) (is : IsOf name f w) where
  -- the bytes make no other program
  pub no_other : (other : Whole) → IsProgramOf name bytes other → other ≡ w
  no_other other of =
      same_of name f w other is (subst (λ (file : File). IsOf name file other) (only of.file of.source) of.program)

  file_cause : (why : NoProgram) → HasFileCause name bytes why → why ≡ Memory
  file_cause why has =
      no_file_cause name f w is why (subst (λ (file : File). StandsAgainstFile name file why) (only has.file has.source) has.stands)

  source_fault : HasOneAnswer bytes → (why : SourceFault) → why ≢ fault.Memory → IsSourceFault bytes why → ⊥
  source_fault one why some stands = some (one.no_fault f source why stands)

  -- nothing stands against the bytes
  pub no_cause : HasOneAnswer bytes → (why : NoProgram) → StandsAgainst name bytes why → why ≡ Memory
  no_cause one (NotUtf8 offset) stands = absurd (source_fault one (fault.NotUtf8 offset) (λ e. cc (e)) stands)
  no_cause one (Lex offset) stands = absurd (source_fault one (fault.Lex offset) (λ e. cc (e)) stands)
  no_cause one (Parse offset) stands = absurd (source_fault one (fault.Parse offset) (λ e. cc (e)) stands)
  no_cause one (Deep offset) stands = absurd (source_fault one (fault.Deep offset) (λ e. cc (e)) stands)
  no_cause one (Types offset kind) stands = file_cause (Types offset kind) stands
  no_cause one Prototypes stands = file_cause Prototypes stands
  no_cause one (FileSize units) stands = file_cause (FileSize units) stands
  no_cause one Missing stands = file_cause Missing stands
  no_cause one (InstantLoop who number) stands = file_cause (InstantLoop who number) stands
  no_cause one (Size units) stands = file_cause (Size units) stands
  no_cause one Memory stands = refl
