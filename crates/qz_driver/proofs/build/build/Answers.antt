use Rattle.qz_driver.specs.Answers.{FilesSeen, files_seen}
use Rattle.qz_driver.specs.Work.{content_of}
use Rattle.qz_driver.proofs.BuildLemmas.{ungot, stops, works}
use Rattle.qz_driver.proofs.build.build.Goals as goal

pub returns-in-Err : goal.returns-in-Err
returns-in-Err g c =
    let old : FilesSeen = files_seen g.F.Files c.args.files.now in
    let new : FilesSeen = files_seen g.F.Files c.content.new.files in
    ungot c.args.asked.name.now c.args.asked.file.now old new c.in-Err.stop c.in-Err.ensures.ungot

pub returns-in-Ok-verilog_of : goal.returns-in-Ok-verilog_of
returns-in-Ok-verilog_of g c =
    let old : FilesSeen = files_seen g.F.Files c.args.files.now in
    let new : FilesSeen = files_seen g.F.Files c.content.new.files in
    let got = c.in-Ok in
    works c.args.asked.name.now c.args.asked.file.now old new (content_of got.got) c.in-Ok-verilog_of.text.items c.output_file.result
    got.ensures.found got.ensures.stays c.in-Ok-verilog_of.ensures c.output_file.ensures.name c.output_file.ensures.bytes c.output_file.ensures.err

pub returns : goal.returns
returns g c =
    let old : FilesSeen = files_seen g.F.Files c.args.files.now in
    let new : FilesSeen = files_seen g.F.Files c.content.new.files in
    let got = c.in-Ok in
    stops c.args.asked.name.now c.args.asked.file.now old new (content_of got.got) c.in-Err-verilog_of.stop got.ensures.found got.ensures.stays c.in-Err-verilog_of.ensures
