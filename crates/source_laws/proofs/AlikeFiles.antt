-- Words of the same sorts spell files of the same shape.
use Rattle.std.proofs.Common.{ℕ, List, [], ◌∷◌, Option, Some, None}
use Rattle.qz_syntax.specs.declared.declarations.Class.{Class}
use Rattle.qz_syntax.specs.declared.declarations.Dir.TheVariants as dir
use Rattle.qz_syntax.specs.declared.files.TypeText.{TypeText}
use Rattle.qz_syntax.specs.declared.files.FileFormal.{FileFormal}
use Rattle.qz_phrases.specs.declared.words.Mark.TheVariants as mark
use Rattle.qz_phrases.specs.Phrases.{one}
use Rattle.qz_reader.specs.declared.formals.DirStart.{DirStart}
use Rattle.qz_reader.specs.declared.formals.DirStart.TheVariants as way
use Rattle.qz_reader.specs.declared.formals.FormalStart.{FormalStart}
use Rattle.qz_reader.specs.declared.formals.FormalStart.TheVariants as formal
use Rattle.qz_reader.specs.declared.formals.FormalsStart.{FormalsStart}
use Rattle.qz_reader.specs.declared.formals.FormalsStart.TheVariants as formals
use Rattle.qz_reader.specs.Formals.{dir_start, formal_start, formals_start, dir_row, a_dir, directed, typed_formal, known_formal, formal_row, a_formal, typing_of, next_formal, more_formals, formals_row, a_head}
use Rattle.qz_reader.specs.Files.{a_proto, a_file}
use Rattle.source_laws.proofs.Alike.{Carries, Any, any, carry_none, carry_one, carry_name, carry_seq, carry_seq_by, mean, carry_first, carry_list, carry_several}
use Rattle.source_laws.proofs.AlikeStatements.{carry_typing, carry_module_block}

carry_dir_row : (d : DirStart) → Carries Any (dir_row d) (dir_row d)
carry_dir_row way.In = mean (λ _. dir.In) (λ _. dir.In) (carry_one mark.Question)
carry_dir_row way.Out = mean (λ _. dir.Out) (λ _. dir.Out) (carry_one mark.Exclamation)
carry_dir_row way.None = carry_none Any (dir_row way.None)

carry_dir : Carries Any a_dir a_dir
carry_dir = carry_first (λ w. carry_dir_row (dir_start w))

carry_directed : (k l : Class × TypeText) → Carries Any (directed k) (directed l)
carry_directed k l = mean (λ p. record { class = k.0; dir = p.0; ty = k.1; name = p.1 }) (λ p. record { class = l.0; dir = p.0; ty = l.1; name = p.1 }) (carry_seq carry_dir carry_name)

carry_typed : Carries Any typed_formal typed_formal
carry_typed = mean (λ p. p.1) (λ p. p.1) (carry_seq_by carry_typing (λ x y q. carry_directed x y))

-- both are known or none is
abbrev Known : Option (Class × TypeText) → Option (Class × TypeText) → Type 0
Known None None = Unit {0}
Known (Some k) (Some l) = Unit {0}
Known None (Some l) = ⊥
Known (Some k) None = ⊥

carry_known : (k l : Option (Class × TypeText)) → Known k l → Carries Any (known_formal k) (known_formal l)
carry_known None None h = carry_none Any (known_formal None)
carry_known (Some k) (Some l) h = carry_directed k l
carry_known None (Some l) h = absurd h
carry_known (Some k) None h = absurd h

carry_formal_row : (k l : Option (Class × TypeText)) → Known k l → (f : FormalStart) → Carries Any (formal_row k f) (formal_row l f)
carry_formal_row k l h formal.Dir = carry_known k l h
carry_formal_row k l h formal.Typing = carry_typed

carry_formal : (k l : Option (Class × TypeText)) → Known k l → Carries Any (a_formal k) (a_formal l)
carry_formal k l h = carry_first (λ w. carry_formal_row k l h (formal_start w))

carry_next : (k l : Option (Class × TypeText)) → Known k l → Carries Any (next_formal k) (next_formal l)
carry_next k l h = mean (λ p. p.1) (λ p. p.1) (carry_seq (carry_one mark.Comma) (carry_formal k l h))

carry_more : (f g : FileFormal) → Carries Any (more_formals f) (more_formals g)
carry_more f g = mean (λ (p : List FileFormal × ℕ). p.0) (λ (p : List FileFormal × ℕ). p.0)
    (carry_list Known Any Any next_formal typing_of (λ _. one mark.CloseParen) carry_next (λ x y q. tt) (λ s t h. carry_one mark.CloseParen) (typing_of f) (typing_of g) tt)

carry_formals_row : (f : FormalsStart) → Carries Any (formals_row f) (formals_row f)
carry_formals_row formals.Close = mean (λ _. []) (λ _. []) (carry_one mark.CloseParen)
carry_formals_row formals.Formal = mean (λ p. p.0 ∷ p.1) (λ p. p.0 ∷ p.1) (carry_seq_by (carry_formal None None tt) (λ f g q. carry_more f g))

carry_head : Carries Any a_head a_head
carry_head = mean (λ p. record { name = p.1.0; formals = p.1.1.1 }) (λ p. record { name = p.1.0; formals = p.1.1.1 })
    (carry_seq (carry_one mark.Module) (carry_seq carry_name (carry_seq (carry_one mark.OpenParen) (any (carry_first (λ w. carry_formals_row (formals_start w)))))))

carry_proto : Carries Any a_proto a_proto
carry_proto = mean (λ p. p.0) (λ p. p.0) (carry_seq carry_head (carry_one mark.Semicolon))

pub carry_file : (levels : ℕ) → Carries Any (a_file levels) (a_file levels)
carry_file levels = mean (λ p. record { protos = p.0; «module» = p.1.0; body = p.1.1 }) (λ p. record { protos = p.0; «module» = p.1.0; body = p.1.1 })
    (carry_several carry_proto (carry_seq carry_head (carry_module_block levels)))
