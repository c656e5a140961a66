use Rattle.tsn_cli.proofs.write_certificate.write_wanted.Goals as goal

pub returns-in-Spelled-clause-put : goal.returns-in-Spelled-clause-put
returns-in-Spelled-clause-put g c = rw (c.in-Some.is, c.in-Spelled.is, c.in-Some-sink.is) c.write_cert.ensures.put

pub returns-in-Argued-clause-put : goal.returns-in-Argued-clause-put
returns-in-Argued-clause-put g c = rw (c.in-Some.is, c.in-Argued.is, c.in-Some-sink.is) c.write_argument.ensures.put
