use Rattle.al_query.proofs.tests.part.Given as goal

abbrev pub ghosts-part_in : goal.ghosts-part_in
ghosts-part_in a = record { name = a.blank.name; parts = a.blank.parts }
