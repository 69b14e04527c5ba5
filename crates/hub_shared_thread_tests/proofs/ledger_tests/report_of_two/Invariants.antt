use Rattle.hub_shared_thread_tests.proofs.ledger_tests.report_of_two.Given as goal

abbrev pub ghosts-write_from_two : goal.ghosts-write_from_two
ghosts-write_from_two g a = record { name = a.blank.name; parts = a.blank.parts }
