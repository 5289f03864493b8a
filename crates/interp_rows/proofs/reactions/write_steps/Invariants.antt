-- The walker stays one of the program.
use Rattle.qz_react.specs.Reacting.{IsWalkerOf}
use Rattle.interp_rows.proofs.reactions.write_steps.Given as goal

abbrev pub invariant-loop-input : goal.invariant-loop-input
invariant-loop-input l = IsWalkerOf l.w.module l.walker
