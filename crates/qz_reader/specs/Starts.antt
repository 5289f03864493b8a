-- What a word begins, where some part of a statement is wanted.
use Rattle.std.specs.Prelude.{ℕ, Bool, true, false}
use Rattle.qz_phrases.specs.declared.words.Sort.{Sort}
use Rattle.qz_phrases.specs.declared.words.Sort.TheVariants as sort
use Rattle.qz_phrases.specs.declared.words.Mark.{Mark}
use Rattle.qz_phrases.specs.declared.words.Mark.TheVariants as mark
use Rattle.qz_reader.specs.declared.starts.RestStart.{RestStart}
use Rattle.qz_reader.specs.declared.starts.RestStart.TheVariants as rest
use Rattle.qz_reader.specs.declared.starts.ArgsStart.{ArgsStart}
use Rattle.qz_reader.specs.declared.starts.ArgsStart.TheVariants as args
use Rattle.qz_reader.specs.declared.starts.NamedStart.{NamedStart}
use Rattle.qz_reader.specs.declared.starts.NamedStart.TheVariants as named
use Rattle.qz_reader.specs.declared.starts.Preemption.{Preemption}
use Rattle.qz_reader.specs.declared.starts.Preemption.TheVariants as preemption
use Rattle.qz_reader.specs.declared.starts.PreemptStart.{PreemptStart}
use Rattle.qz_reader.specs.declared.starts.PreemptStart.TheVariants as preempt
use Rattle.qz_reader.specs.declared.starts.WeakStart.{WeakStart}
use Rattle.qz_reader.specs.declared.starts.WeakStart.TheVariants as weak
use Rattle.qz_reader.specs.declared.starts.ImmediateStart.{ImmediateStart}
use Rattle.qz_reader.specs.declared.starts.ImmediateStart.TheVariants as immediate
use Rattle.qz_reader.specs.declared.starts.ElseStart.{ElseStart}
use Rattle.qz_reader.specs.declared.starts.ElseStart.TheVariants as other
use Rattle.qz_reader.specs.declared.starts.EndStart.{EndStart}
use Rattle.qz_reader.specs.declared.starts.EndStart.TheVariants as end
use Rattle.qz_reader.specs.declared.starts.Round.{Round}
use Rattle.qz_reader.specs.declared.starts.Round.TheVariants as round
use Rattle.qz_reader.specs.declared.starts.StmtStart.{StmtStart}
use Rattle.qz_reader.specs.declared.starts.StmtStart.TheVariants as start

abbrev pub rest_start : Sort → RestStart
rest_start (sort.Mark mark.Pause) = rest.Pause
rest_start (sort.Mark mark.Halt) = rest.Halt
rest_start (sort.Mark mark.Await) = rest.Await
rest_start (sort.Mark mark.Immediate) = rest.Immediate
rest_start _ = rest.None

abbrev pub args_start : Sort → ArgsStart
args_start (sort.Mark mark.CloseParen) = args.Close
args_start _ = args.Argument

abbrev pub named_start : Sort → NamedStart
named_start (sort.Mark mark.Equals) = named.Equals
named_start (sort.Mark mark.OpenParen) = named.Paren
named_start (sort.Mark mark.Colon) = named.Colon
named_start _ = named.None

abbrev pub preempt_start : Sort → PreemptStart
preempt_start (sort.Mark mark.Abort) = preempt.Form preemption.Abort
preempt_start (sort.Mark mark.Suspend) = preempt.Form preemption.Suspend
preempt_start _ = preempt.None

abbrev pub preemption_mark : Preemption → Mark
preemption_mark preemption.Abort = mark.Abort
preemption_mark preemption.Suspend = mark.Suspend

abbrev pub weak_start : Sort → WeakStart
weak_start (sort.Mark mark.Immediate) = weak.Immediate
weak_start _ = weak.Plain

abbrev pub immediate_start : Sort → ImmediateStart
immediate_start (sort.Mark mark.Await) = immediate.Await
immediate_start _ = immediate.Preempt

abbrev pub else_start : Sort → ElseStart
else_start (sort.Mark mark.Else) = other.Else
else_start _ = other.None

abbrev pub end_start : Sort → EndStart
end_start (sort.Mark mark.BarBar) = end.Bars
end_start (sort.Mark mark.CloseBrace) = end.Brace
end_start _ = end.None

abbrev pub ends_list : Sort → Bool
ends_list (sort.Mark mark.BarBar) = true
ends_list (sort.Mark mark.CloseBrace) = true
ends_list _ = false

abbrev pub round_mark : Round → Mark
round_mark round.While = mark.While
round_mark round.Every = mark.Every

abbrev pub stmt_start : Sort → StmtStart
stmt_start (sort.Mark mark.Nothing) = start.Nothing
stmt_start (sort.Mark mark.Pause) = start.Pause
stmt_start (sort.Mark mark.Halt) = start.Halt
stmt_start (sort.Mark mark.Await) = start.Await
stmt_start (sort.Mark mark.Immediate) = start.Immediate
stmt_start (sort.Mark mark.Weak) = start.Weak
stmt_start (sort.Mark mark.Abort) = start.Preempt preemption.Abort
stmt_start (sort.Mark mark.Suspend) = start.Preempt preemption.Suspend
stmt_start sort.Name = start.Name
stmt_start (sort.Mark mark.Next) = start.Next
stmt_start (sort.Mark mark.Emit) = start.Emit
stmt_start (sort.Mark mark.OpenBrace) = start.Block
stmt_start (sort.Mark mark.If) = start.If
stmt_start (sort.Mark mark.Do) = start.Do
stmt_start (sort.Mark mark.While) = start.Round round.While
stmt_start (sort.Mark mark.Every) = start.Round round.Every
stmt_start (sort.Mark mark.Loop) = start.Loop
stmt_start _ = start.None

-- how many levels a statement has at least that begins so
abbrev pub stmt_need : StmtStart → ℕ
stmt_need start.Nothing = 1
stmt_need start.Pause = 1
stmt_need start.Halt = 1
stmt_need start.Name = 1
stmt_need start.Emit = 1
stmt_need start.Block = 1
stmt_need start.None = 0
stmt_need _ = 2
