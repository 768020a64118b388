use Rattle.model_crashes.proofs.an_image_reached_has_one_prefix.Goals as goal

pub returns : goal.returns
returns c files commits begun image reached =
    (reached.number, reached.doubt, reached.within, reached.was_begun, reached.is.each)
