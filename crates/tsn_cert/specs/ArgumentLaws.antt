-- The law of certificate files, the contract of a function in `tsn_codec/src/laws.rt`.
--     IsInGrammar                a certificate that has a form in a file
--     ArgumentIsReadAgain        an argument that its file says
--     CertificateTextIsRead      what is printed is read again
use Rattle.std.specs.Prelude.{◌≡◌, Some, Ok, IsTrue}
use Rattle.tsn_cert.specs.Laws.{AreInGrammar}
use Rattle.tsn_cert.specs.Argument.{argument_of, argument_value, argument_text}
use Rattle.tsn_cert.specs.Certificate.{certificate_fits, certificate_in, certificate_text, is_of_format}
use Rattle.tsn_cert.specs.declared.argument.Argument.{Argument}
use Rattle.tsn_cert.specs.declared.certificate.Certificate.{Certificate}
use Rattle.tsn_cert.specs.declared.certificate.Certificate.TheVariants as kind

-- the grammar has the argument: it is what its value says
abbrev pub IsArgumentInGrammar : Argument → Type 0
IsArgumentInGrammar argument = argument_of (argument_value argument) ≡ Some argument

-- the grammar has the tree's nodes, or the argument
abbrev pub IsInGrammar : Certificate → Type 0
IsInGrammar (kind.Tree cert) = AreInGrammar cert.nodes
IsInGrammar (kind.Argument argument) = IsArgumentInGrammar argument

-- the file of the argument says that argument
abbrev pub ArgumentIsReadAgain : Argument → Type 0
ArgumentIsReadAgain argument = certificate_in (argument_text argument) ≡ Ok (kind.Argument argument)

-- the text of a certificate within the limits, which the grammar has and whose nodes are of its format, says that certificate
abbrev pub CertificateTextIsRead : Type 0
CertificateTextIsRead = (certificate : Certificate) → IsInGrammar certificate → IsTrue (is_of_format certificate) → IsTrue (certificate_fits certificate)
    → certificate_in (certificate_text certificate) ≡ Ok certificate
