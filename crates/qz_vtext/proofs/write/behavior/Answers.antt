use Rattle.qz_vtext.specs.Lines.{output_lines}
use Rattle.qz_vtext.specs.Text.{initial_block, clock_block}
use Rattle.qz_vtext.proofs.Written.{written3}
use Rattle.qz_vtext.proofs.write.behavior.Goals as goal

pub returns : goal.returns
returns c =
    let inputs = c.as_slice.result.now in
    rw (← c.as_slice.ensures, ← c.as_slice-2.ensures, ← c.as_slice-3.ensures, ← c.as_slice-4.ensures, ← c.as_slice-5.ensures)
    (written3 (output_lines inputs c.as_slice-2.result.now c.as_slice-3.result.now) (initial_block c.as_slice-4.result.now)
    (clock_block inputs c.as_slice-5.result.now) _ _ _ _ c.in_ok-outputs.ensures c.in_ok-initial.ensures c.in_ok-clock.ensures)
