-- Metadata has a reading where the present key hasn't its name and it isn't too heavy.
use Rattle.dump_storage.proofs.StepLemmas.{unchanged, meta_refused, put_sound, meta_step, puts-renamed, cannot-renamed}
use Rattle.dump_storage.proofs.progress.Progress.add_meta.Goals as goal

pub returns-in_default-2-clause-step : goal.returns-in_default-2-clause-step
returns-in_default-2-clause-step c =
    let key = c.in-Some-present in
    let stays = rw c.in_default-2.is at c.in_ok-weight.ensures in
    let refused = cannot-renamed key.present c.args.self.now.weight c.in-Some.name.now c.in-Some-value_of.text.now c.args.name.now c.args.text.now c.in-Some.ensures.0 c.in-Some-value_of.ensures.0 stays.1 in
    (unchanged c.args.self.now key.present key.is c.requires c.put.new.self stays.0, meta_refused c.args.self.now key.present key.is c.requires c.args.name.now c.args.text.now refused)

pub returns-clause-sound : goal.returns-clause-sound
returns-clause-sound c =
    let key = c.in-Some-present in
    let put = rw c.in-Some-2.is at c.in_ok-weight.ensures in
    let puts = puts-renamed key.present c.put.new.self c.args.self.now.weight c.in-Some-2.weight c.in-Some.name.now c.in-Some-value_of.text.now c.args.name.now c.args.text.now c.in-Some.ensures.0 c.in-Some-value_of.ensures.0 put in
    put_sound c.args.self.now key.present key.is c.requires c.args.name.now c.args.text.now c.in-Some.ensures.1 c.put.new.self c.in-Some-2.weight puts

pub returns-clause-step : goal.returns-clause-step
returns-clause-step c =
    let key = c.in-Some-present in
    let put = rw c.in-Some-2.is at c.in_ok-weight.ensures in
    let puts = puts-renamed key.present c.put.new.self c.args.self.now.weight c.in-Some-2.weight c.in-Some.name.now c.in-Some-value_of.text.now c.args.name.now c.args.text.now c.in-Some.ensures.0 c.in-Some-value_of.ensures.0 put in
    meta_step c.args.self.now key.present key.is c.requires c.args.name.now c.args.text.now c.in-Some.ensures.1 c.put.new.self c.in-Some-2.weight puts c.in-Some-value_of.ensures.1
