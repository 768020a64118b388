use Rattle.general_words.proofs.laws.want_of_memory_excuses_no_other_fault.Goals as goal

pub returns : goal.returns
returns c = λ memory fault wanted other holds. holds other
