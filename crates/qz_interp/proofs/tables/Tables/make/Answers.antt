use Rattle.std.proofs.Common.{map, ap, ◌∙◌}
use Rattle.qz_react.specs.Seeing.{instance_of}
use Rattle.qz_interp.specs.Entering.{blank_slot}
use Rattle.qz_interp.specs.InstanceTexts.{instance_text}
use Rattle.qz_interp.proofs.EnteringLemmas.{map_both}
use Rattle.qz_interp.proofs.tables.Tables.make.Goals as goal

pub returns : goal.returns
returns c = record {
  walker = c.in_ok-walker.ensures;
  lists = c.in_ok-lists.ensures c.args.w.now.module
      (c.in_ok-blank.ensures ∙ map_both (blank_slot c.args.w.now.module) instance_of c.instances.result.now
      ∙ ap (map (blank_slot c.args.w.now.module)) (c.instances.ensures c.args.w.now.module c.in_ok-walker.ensures));
  texts = c.in_ok-texts.ensures ∙ map_both (instance_text c.args.w.now) instance_of c.instances-2.result.now
      ∙ ap (map (instance_text c.args.w.now)) (c.instances-2.ensures c.args.w.now.module c.in_ok-walker.ensures);
}
