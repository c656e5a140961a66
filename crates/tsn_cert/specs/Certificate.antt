-- The certificate file of either kind: a tree (formats 1 and 2) or an argument (format 3).
use Rattle.std.specs.Prelude.{ℕ, List, Bool, true, Option, Some, None, option_map, Result}
use Rattle.serde_json.specs.Data.{Data}
use Rattle.tsn_cert.specs.Json.{value_of}
use Rattle.tsn_cert.specs.Fault.{answer}
use Rattle.tsn_cert.specs.Cert.{are_of, cert_of, cert_fits, cert_text}
use Rattle.tsn_cert.specs.declared.fault.FileFault.{FileFault}
use Rattle.tsn_cert.specs.declared.cert.Cert.{Cert}
use Rattle.tsn_cert.specs.Argument.{argument_of, argument_fits, argument_text}
use Rattle.tsn_cert.specs.declared.argument.Argument.{Argument}
use Rattle.tsn_cert.specs.declared.certificate.Certificate.{Certificate}
use Rattle.tsn_cert.specs.declared.certificate.Certificate.TheVariants as kind

-- the tree, or else the argument
abbrev pub tree_or : Option Cert → Option Argument → Option Certificate
tree_or (Some cert) argument = Some (kind.Tree cert)
tree_or None argument = option_map kind.Argument argument

abbrev pub certificate_of : Data → Option Certificate
certificate_of d = tree_or (cert_of d) (argument_of d)

-- no number of the file is above its limit
abbrev pub certificate_fits : Certificate → Bool
certificate_fits (kind.Tree cert) = cert_fits cert
certificate_fits (kind.Argument argument) = argument_fits argument

-- what a certificate file says, or how it is refused
abbrev pub certificate_in : List ℕ → Result Certificate FileFault
certificate_in bytes = answer certificate_of certificate_fits (value_of bytes)

-- the nodes of a tree are of its format
abbrev pub is_of_format : Certificate → Bool
is_of_format (kind.Tree cert) = are_of cert.format cert.nodes
is_of_format (kind.Argument argument) = true

-- the text of a certificate file
abbrev pub certificate_text : Certificate → List ℕ
certificate_text (kind.Tree cert) = cert_text cert
certificate_text (kind.Argument argument) = argument_text argument
